-- How many steps are counted where walks of a case come to.
use Rattle.std.proofs.Common.{◌≡◌, ℕ, ◌-◌, List, [], ◌∷◌, ◌++◌, length, refl, sym, ap, subst, ◌∙◌, arith}
use Rattle.std.proofs.lemmas.List.{length-map}
use Rattle.std.proofs.lemmas.Option.{same_Some}
use Rattle.path_exprs.specs.declared.limits.TheConstants.{NODES}
use Rattle.net_base.specs.Network.{PlainNet}
use Rattle.policy_base.specs.declared.case.Case.{Case}
use Rattle.policy_base.specs.Policies.{PlainPolicy, PlainStatement}
use Rattle.path_exprs.specs.Standings.{IsWalked, PassesStates, Plan, plan_for}
use Rattle.graph_base.specs.Graphs.{PlainGraph}
use Rattle.walk_states.specs.Built.{IsBuilt, graph_over, node_of}
use Rattle.walk_states.proofs.OneGraph.{no_more_states, one-graph}
use Rattle.graph_law.specs.Limits.{IsBuiltWithin}
use Rattle.graph_law.proofs.Counted.{built_walked, count_steps}
use Rattle.evidence_law.specs.Passes.{AreWithin}
use Rattle.case_core.specs.declared.refusal.CompileRefusal.{CompileRefusal}
use Rattle.case_core.specs.declared.refusal.CompileRefusal.TheVariants.{MixedSource, NoEvidence, NoMemory, SourceWithoutPath, TooManyRanks, TooManyStates, TooManySteps}
use Rattle.case_core.specs.Refusals.{IsCause, IsPastLimit}
use Rattle.evidence_check.specs.Listed.{AreWithinTo, IsWithin, IsWithinRoom}

-- what is counted is what is built
walked_steps : (net : PlainNet) (plan : Plan) (g : PlainGraph) (steps : ℕ) → IsBuilt net plan g → IsWalked net plan steps → steps ≡ length g.steps
walked_steps net plan g steps built walked =
    let xs = walked.standings in
    let same = one-graph net plan g (graph_over net plan xs) built (xs, walked.are, refl) in
    walked.count ∙ sym (ap (λ (h : PlainGraph). length h.steps) same ∙ count_steps net plan xs 0 xs)

one_count : (net : PlainNet) (plan : Plan) (m n : ℕ) → IsWalked net plan m → IsWalked net plan n → m ≡ n
one_count net plan m n one other =
    let xs = other.standings in
    walked_steps net plan (graph_over net plan xs) m (xs, other.are, refl) one ∙ sym (walked_steps net plan (graph_over net plan xs) n (xs, other.are, refl) other)

not_too_many : (net : PlainNet) (plan : Plan) (steps : ℕ) → PassesStates net plan NODES → IsWalked net plan steps → ⊥
not_too_many net plan steps many walked =
    let xs = walked.standings in
    no_more_states net plan (graph_over net plan xs) NODES (xs, walked.are, refl) (omega (arith, length-map xs (node_of net plan), walked.few)) many

-- what is built within the limits is within them
pub built_within : (net : PlainNet) (room : ℕ) (s : PlainStatement) (c : Case) (g : PlainGraph) → IsBuiltWithin net room s c g → IsWithin net s c room (length g.steps)
built_within net room s c g within = record { ranks = within.ranks; walked = built_walked net room s c g within; fits = within.steps }

-- a case that is refused for a limit isn't within the limits
module _ (net : PlainNet) (number room : ℕ) (s : PlainStatement) (c : Case) where
  pub past_limit : (e : CompileRefusal) → IsPastLimit e → (e ≡ NoMemory → ⊥) → IsCause net number room s c e → (steps : ℕ) → IsWithin net s c room steps → ⊥
  past_limit (TooManyRanks k count) past other cause steps within = absurd (omega (arith, within.ranks, cause.1))
  past_limit (TooManyStates k) past other cause steps within = not_too_many net (plan_for net s c) steps cause.2 within.walked
  past_limit (TooManySteps k) past other cause steps within =
      let same = walked_steps net (plan_for net s c) cause.2.0 steps cause.2.1 within.walked in
      absurd (omega (arith, same, within.fits, cause.2.3))
  past_limit NoMemory past other cause steps within = other refl
  past_limit (SourceWithoutPath k r) past other cause steps within = past
  past_limit (MixedSource k r with without) past other cause steps within = past
  past_limit (NoEvidence k g r) past other cause steps within = past

-- ---- cases one after the other

module _ (net : PlainNet) (policy : PlainPolicy) where
  pub within_to : (room left : ℕ) (cs : List Case) → AreWithinTo net policy room cs left → AreWithin net policy room cs
  within_to room left [] h = tt
  within_to room left (c ∷ cs) h =
      let here = h.1 in
      (here.0, h.0, here.1, here.2.ranks, here.2.walked, here.2.fits, within_to (room - h.0) left cs h.2)

  pub within_more : (room left steps : ℕ) (cs : List Case) (c : Case) → AreWithinTo net policy room cs left → IsWithinRoom net policy c left steps
      → AreWithinTo net policy room (cs ++ c ∷ []) (left - steps)
  within_more room left steps [] c h here = (steps, subst (λ r. IsWithinRoom net policy c r steps) h here, ap (λ r. r - steps) h)
  within_more room left steps (d ∷ cs) c h here = (h.0, h.1, within_more (room - h.0) left steps cs c h.2 here)

  -- where one more case is within the limits, it is so with the room that is left
  pub within_last : (room left : ℕ) (cs : List Case) (c : Case) → AreWithinTo net policy room cs left → AreWithin net policy room (cs ++ c ∷ []) → (steps : ℕ) × IsWithinRoom net policy c left steps
  within_last room left [] c h all =
      let within : IsWithin net all.0 c room all.1 = record { ranks = all.3; walked = all.4; fits = all.5 } in
      (all.1, subst (λ r. IsWithinRoom net policy c r all.1) (sym h) (all.0, all.2, within))
  within_last room left (d ∷ cs) c h all =
      let same : all.0 ≡ h.1.0 = same_Some all.0 h.1.0 (sym all.2 ∙ h.1.1) in
      let walked = subst (λ (s : PlainStatement). IsWalked net (plan_for net s d) all.1) same all.4 in
      let steps : all.1 ≡ h.0 = one_count net (plan_for net h.1.0 d) all.1 h.0 walked h.1.2.walked in
      within_last (room - h.0) left cs c h.2 (subst (λ n. AreWithin net policy (room - n) (cs ++ c ∷ [])) steps all.6)
