-- The cases are accepted one after the other.
use Rattle.std.proofs.Common.{◌≡◌, ℕ, suc, ◌+◌, ◌-◌, ◌<◌, List, [], ◌∷◌, ◌++◌, length, sym, ap, subst, ◌∙◌, arith}
use Rattle.std.specs.Prelude.{sum_by}
use Rattle.std.proofs.lemmas.List.{length_push, map-append}
use Rattle.std.proofs.lemmas.List.Sums.{sum_by-append, sum_by-cons}
use Rattle.list_law.proofs.Items.{slice_get_inside}
use Rattle.net_base.specs.Network.{PlainNet}
use Rattle.policy_base.specs.declared.case.Case.{Case}
use Rattle.policy_base.specs.Cases.{case_list}
use Rattle.policy_base.specs.Policies.{PlainPolicy, PlainStatement}
use Rattle.graph_base.specs.Graphs.{PlainGraph}
use Rattle.graph_base.specs.declared.graph.Prefs.{Prefs}
use Rattle.policy_base.specs.CaseNumbers.{OfCase, IsCase}
use Rattle.case_core.specs.declared.refusal.CompileRefusal.{CompileRefusal}
use Rattle.case_core.specs.declared.refusal.CompileRefusal.TheVariants.{TooManyRanks, TooManyStates, TooManySteps, SourceWithoutPath, MixedSource, NoEvidence, NoMemory}
use Rattle.policy_base.proofs.KnownCases.{case_known}
use Rattle.case_evidence.specs.declared.accepted.AcceptedCase.{AcceptedCase}
use Rattle.case_evidence.specs.Accepted.{IsAccepted, IsCaseCause}
use Rattle.compile_core.specs.Accepting.{AreGiven}
use Rattle.evidence_law.specs.Passes.{all_steps}
use Rattle.compile_core.specs.Compiling.{AreAccepted, AreAcceptedFrom, IsRefusal, room_after}

-- how many steps these cases took
abbrev pub used_by : List AcceptedCase → ℕ
used_by accepted = sum_by (λ (a : AcceptedCase). a.used) accepted

-- the case with this number is accepted, with so much room
abbrev pub IsAcceptedAt : PlainNet → PlainPolicy → ℕ → ℕ → AcceptedCase → Type 0
IsAcceptedAt net policy number room a = OfCase net policy number (λ s c. IsAccepted net room s c a)

-- there is a case with each number
pub there : (net : PlainNet) (policy : PlainPolicy) (k number : ℕ) → k < length (case_list net policy) → number ≡ k + 1 → (s : PlainStatement) × (c : Case) × IsCase net policy number s c
there net policy k number within is =
    let found = slice_get_inside (case_list net policy) k within in
    let statement = (case_known net policy k found.0 found.1).statement in
    let after : suc k ≡ number = omega (arith, is) in
    let here : IsCase net policy (suc k) statement.0 found.0 = record { case = found.1; statement = statement.1 } in
    (statement.0, found.0, subst (λ n. IsCase net policy n statement.0 found.0) after here)

module _ (net : PlainNet) (policy : PlainPolicy) where
  one_more : (k room number left : ℕ) (before : List AcceptedCase) (a : AcceptedCase) → number ≡ k + length before → left ≡ room - used_by before
      → AreAcceptedFrom net policy k room before → IsAcceptedAt net policy number left a → AreAcceptedFrom net policy k room (before ++ a ∷ [])
  one_more k room number left [] a at rest each is =
      let first : number ≡ k = omega (arith, at) in
      let whole : left ≡ room = omega (arith, rest) in
      (subst (λ r. IsAcceptedAt net policy k r a) whole (subst (λ n. IsAcceptedAt net policy n left a) first is), tt)
  one_more k room number left (b ∷ before) a at rest each is =
      (each.0, one_more (k + 1) (room - b.used) number left before a (omega (arith, at)) (omega (arith, rest, sum_by-cons (λ (x : AcceptedCase). x.used) b before)) each.1 is)

  none_more : (k room : ℕ) (before : List AcceptedCase) (a : AcceptedCase) → room ≡ room_after before → room - a.used ≡ room_after (before ++ a ∷ [])
  none_more k room before a is =
      omega (arith, is, sum_by-append (λ (x : AcceptedCase). x.used) before (a ∷ []), sum_by-cons (λ (x : AcceptedCase). x.used) a [])

  -- one more case is given
  pub given_more : (k next room left : ℕ) (gs graphs : List PlainGraph) (ps prefs : List Prefs) (a : AcceptedCase) → AreGiven net policy k room gs ps → IsAcceptedAt net policy (k + 1) room a
      → next ≡ k + 1 → left ≡ room - a.used → graphs ≡ gs ++ a.graph ∷ [] → prefs ≡ ps ++ a.prefs ∷ [] → AreGiven net policy next left graphs prefs
  given_more k next room left gs graphs ps prefs a before is after rest is_g is_p =
      let past = before.accepted in
      record {
        accepted = past ++ a ∷ [];
        each = one_more 1 all_steps (k + 1) room past a (omega (arith, before.count)) before.left before.each is;
        count = length_push past a ∙ ap (λ n. n + 1) before.count ∙ sym after;
        left = rest ∙ none_more k room past a before.left;
        graphs = is_g ∙ ap (λ (xs : List PlainGraph). xs ++ a.graph ∷ []) before.graphs ∙ sym (map-append (λ (x : AcceptedCase). x.graph) past (a ∷ []));
        prefs = is_p ∙ ap (λ (xs : List Prefs). xs ++ a.prefs ∷ []) before.prefs ∙ sym (map-append (λ (x : AcceptedCase). x.prefs) past (a ∷ []));
      }

  -- what refuses a case refuses the policy
  refusal_of : (before : List AcceptedCase) (e : CompileRefusal) → AreAccepted net policy before → length before < length (case_list net policy)
      → OfCase net policy (length before + 1) (λ s c. IsCaseCause net (length before + 1) (room_after before) s c e) → IsRefusal net policy e
  refusal_of before (TooManyRanks k count) each within cause = (before, each, (within, cause))
  refusal_of before (TooManyStates k) each within cause = (before, each, (within, cause))
  refusal_of before (TooManySteps k) each within cause = (before, each, (within, cause))
  refusal_of before (SourceWithoutPath k r) each within cause = (before, each, (within, cause))
  refusal_of before (MixedSource k r with without) each within cause = (before, each, (within, cause))
  refusal_of before (NoEvidence k g r) each within cause = (before, each, (within, cause))
  refusal_of before NoMemory each within cause = tt

  pub refused_next : (k number room : ℕ) (gs : List PlainGraph) (ps : List Prefs) (e : CompileRefusal) → AreGiven net policy k room gs ps → k < length (case_list net policy) → number ≡ k + 1
      → OfCase net policy number (λ s c. IsCaseCause net number room s c e) → IsRefusal net policy e
  refused_next k number room gs ps e before within at cause =
      let same : number ≡ length before.accepted + 1 = omega (arith, at, before.count) in
      refusal_of before.accepted e before.each (omega (arith, within, before.count))
      (subst (λ r. OfCase net policy (length before.accepted + 1) (λ s c. IsCaseCause net (length before.accepted + 1) r s c e)) before.left
      (subst (λ n. OfCase net policy n (λ s c. IsCaseCause net n room s c e)) same cause))
