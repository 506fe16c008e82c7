-- What is known of the one case with a number.
use Rattle.std.proofs.Common.{◌≡◌, ℕ, zero, suc, ◌≤◌, length, Some, inl, inr, arith}
use Rattle.std.specs.Prelude.{slice_get}
use Rattle.std.proofs.lemmas.Option.{slice_get_cases}
use Rattle.net_base.specs.Network.{PlainNet}
use Rattle.policy_base.specs.declared.case.Case.{Case}
use Rattle.policy_base.specs.Cases.{case_list}
use Rattle.policy_base.specs.Policies.{PlainPolicy, PlainStatement}
use Rattle.policy_base.specs.CaseNumbers.{IsCase, OfCase}
use Rattle.case_core.specs.Refusals.{IsGraphOf}
use Rattle.case_core.specs.declared.cases.CaseGraph.{CaseGraph}
use Rattle.policy_base.proofs.KnownCases.{case_known}

-- there is a case with each number of the list, from 1
pub case_there : (net : PlainNet) (policy : PlainPolicy) (number : ℕ) → 1 ≤ number → number ≤ length (case_list net policy) → (s : PlainStatement) × (c : Case) × IsCase net policy number s c
case_there net policy zero from within = absurd (omega (arith, from))
case_there net policy (suc k) from within =
    let at : (c : Case) × (slice_get (case_list net policy) k ≡ Some c) = elim (slice_get_cases (case_list net policy) k).1 [
      | inl found ↦ (found.0, found.2)
      | inr past ↦ absurd (omega (arith, past.0, within))
    ] in
    let known = case_known net policy k at.0 at.1 in
    (known.statement.0, at.0, record { case = at.1; statement = known.statement.1 })

-- so a graph that is given for it was built with no more steps than there is room for
pub used_within : (net : PlainNet) (policy : PlainPolicy) (number room : ℕ) (given : CaseGraph) → 1 ≤ number → number ≤ length (case_list net policy)
    → OfCase net policy number (λ s c. IsGraphOf net room s c given) → given.used ≤ room
used_within net policy number room given from within of =
    let case = case_there net policy number from within in
    let graph = of case.0 case.1 case.2 in
    omega (arith, graph.1.within.steps, graph.2)
