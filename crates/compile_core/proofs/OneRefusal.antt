-- A policy is compiled or refused, and it is refused for one cause.
use Rattle.std.proofs.Common.{◌≡◌, ◌+◌, ◌<◌, List, length, refl, sym, ap, subst, ◌∙◌, arith, inl, inr}
use Rattle.std.specs.Prelude.{◌⊎◌}
use Rattle.std.proofs.lemmas.Bool.{cases_order}
use Rattle.net_base.specs.Network.{PlainNet, IsNet}
use Rattle.policy_base.specs.Cases.{case_list}
use Rattle.policy_base.specs.Policies.{IsPolicy, PlainPolicy}
use Rattle.config_base.specs.Configs.{PlainConfig}
use Rattle.evidence_base.specs.Made.{PlainCaseEvidence, IsConfigOf}
use Rattle.config_maker.proofs.OneConfiguration.{one_configuration}
use Rattle.evidence_law.specs.Passes.{Passes}
use Rattle.policy_base.specs.CaseNumbers.{OfCase, OriginsAreRouters}
use Rattle.case_core.specs.declared.refusal.CompileRefusal.{CompileRefusal}
use Rattle.case_core.specs.declared.refusal.CompileRefusal.TheVariants.{TooManyRanks, TooManyStates, TooManySteps, SourceWithoutPath, MixedSource, NoEvidence, NoMemory}
use Rattle.case_evidence.specs.declared.accepted.AcceptedCase.{AcceptedCase}
use Rattle.case_evidence.specs.Accepted.{IsCaseCause}
use Rattle.case_evidence.proofs.OneVerdict.{one_cause}
use Rattle.compile_core.specs.Compiling.{AreAccepted, IsMade, IsRefusal, room_after}
use Rattle.compile_core.proofs.Agreement.{as_many_are_one, not_refused_before}
use Rattle.compile_core.proofs.Known.{evidence_for, passing}
use Rattle.compile_core.proofs.OneByOne.{there}

pub made_passes : (net : PlainNet) (policy : PlainPolicy) (config : PlainConfig) (cs : List PlainCaseEvidence) → IsNet net → IsPolicy policy
    → OriginsAreRouters net policy.origins → IsMade net policy config cs → Passes net policy config cs
made_passes net policy config cs rules kept routers is =
    subst (Passes net policy config) (sym is.evidence)
    (passing net rules policy routers is.accepted is.all is.each config kept (subst (λ es. IsConfigOf net policy es config) is.evidence is.lines))

-- the cases before are accepted, and the next one is refused
record IsOfCase (net : PlainNet) (policy : PlainPolicy) (e : CompileRefusal) : Type 0 where
  before : List AcceptedCase
  each : AreAccepted net policy before
  within : length before < length (case_list net policy)
  cause : OfCase net policy (length before + 1) (λ s c. IsCaseCause net (length before + 1) (room_after before) s c e)

module _ (net : PlainNet) (policy : PlainPolicy) where
  kinds : (e : CompileRefusal) → IsRefusal net policy e → (e ≡ NoMemory) ⊎ IsOfCase net policy e
  kinds NoMemory h = inl refl
  kinds (TooManyRanks k n) h = inr (record { before = h.0; each = h.1; within = h.2.0; cause = h.2.1 })
  kinds (TooManyStates k) h = inr (record { before = h.0; each = h.1; within = h.2.0; cause = h.2.1 })
  kinds (TooManySteps k) h = inr (record { before = h.0; each = h.1; within = h.2.0; cause = h.2.1 })
  kinds (SourceWithoutPath k r) h = inr (record { before = h.0; each = h.1; within = h.2.0; cause = h.2.1 })
  kinds (MixedSource k r v w) h = inr (record { before = h.0; each = h.1; within = h.2.0; cause = h.2.1 })
  kinds (NoEvidence k g r) h = inr (record { before = h.0; each = h.1; within = h.2.0; cause = h.2.1 })

  -- no case is refused where all are accepted
  pub not_refused : (config : PlainConfig) (cs : List PlainCaseEvidence) (e : CompileRefusal) → IsMade net policy config cs → IsRefusal net policy e → e ≡ NoMemory
  not_refused config cs e made h = elim (kinds e h) [
    | inl none ↦ none
    | inr of ↦ not_refused_before net policy of.before made.accepted e of.each made.each (omega (arith, of.within, made.all)) (omega (arith, made.all)) of.cause
  ]

  -- two refusals of cases: of the first one that is refused
  both_cases : (e f : CompileRefusal) → IsOfCase net policy e → IsOfCase net policy f → (e ≡ NoMemory) ⊎ (f ≡ NoMemory) ⊎ (e ≡ f)
  both_cases e f a b = elim (cases_order (length a.before) (length b.before)) [
    | inr (inl less) ↦ inl (not_refused_before net policy a.before b.before e a.each b.each less (omega (arith, b.within)) a.cause)
    | inl long ↦
        let same = as_many_are_one net policy b.before a.before b.each a.each (sym long) (omega (arith, b.within)) in
        let other = subst (λ (xs : List AcceptedCase). OfCase net policy (length xs + 1) (λ s c. IsCaseCause net (length xs + 1) (room_after xs) s c f)) same b.cause in
        let case = there net policy (length a.before) (length a.before + 1) a.within refl in
        one_cause net (length a.before + 1) (room_after a.before) case.0 case.1 e f (a.cause case.0 case.1 case.2) (other case.0 case.1 case.2)
    | inr (inr more) ↦ inr (inl (not_refused_before net policy b.before a.before f b.each a.each more (omega (arith, a.within)) b.cause))
  ]

  pub one_refusal : (e f : CompileRefusal) → IsRefusal net policy e → IsRefusal net policy f → (e ≡ NoMemory) ⊎ (f ≡ NoMemory) ⊎ (e ≡ f)
  one_refusal e f a b = elim (kinds e a) [
    | inl none ↦ inl none
    | inr of ↦ elim (kinds f b) [
      | inl none ↦ inr (inl none)
      | inr other ↦ both_cases e f of other
    ]
  ]

-- what is made has one evidence, and one configuration where both keep their rules
pub one_pair : (net : PlainNet) (policy : PlainPolicy) (config other : PlainConfig) (cs ds : List PlainCaseEvidence) → IsMade net policy config cs
    → IsMade net policy other ds → (cs ≡ ds) × (config ≡ other)
one_pair net policy config other cs ds a b =
    let accepted = as_many_are_one net policy a.accepted b.accepted a.each b.each (a.all ∙ sym b.all) (omega (arith, a.all)) in
    let same : cs ≡ ds = a.evidence ∙ ap (evidence_for net policy) accepted ∙ sym b.evidence in
    (same, one_configuration net policy ds config other (subst (λ es. IsConfigOf net policy es config) same a.lines) b.lines)
