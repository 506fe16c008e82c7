-- What is left of the graph over a case's standings is faithful to the case.
use Rattle.std.proofs.Common.{◌≡◌, ◌+◌, ℕ, suc, Some, arith, refl, subst, sym}
use Rattle.std.specs.Prelude.{slice_get}
use Rattle.list_law.specs.Members.{IsIn}
use Rattle.net_base.specs.Network.{IsNet, PlainNet}
use Rattle.net_base.specs.Sets.{holds}
use Rattle.policy_base.specs.declared.case.Case.{Case}
use Rattle.policy_base.specs.Cases.{case_list}
use Rattle.policy_base.specs.Policies.{PlainPolicy, PlainStatement, statement_at}
use Rattle.path_exprs.specs.Standings.{plan_for}
use Rattle.graph_base.specs.Graphs.{PlainGraph}
use Rattle.walk_states.specs.Built.{IsBuilt}
use Rattle.reach_prune.specs.Trimmed.{IsTrimmed}
use Rattle.evidence_law.specs.Faithful.{IsFaithful}
use Rattle.policy_base.specs.CaseNumbers.{IsCase, OfCase, OriginsAreRouters}
use Rattle.policy_base.proofs.KnownCases.{case_known, known_origins}
use Rattle.graph_law.proofs.Faith.{built_is_faithful}
use Rattle.case_core.specs.declared.cases.CaseGraph.{CaseGraph}
use Rattle.case_core.specs.Refusals.{IsGraphOf}
use Rattle.evidence_check.specs.Listed.{IsWithin, IsWithinRoom}
use Rattle.evidence_check.proofs.Limits.{built_within}

case_is_live : (net : PlainNet) (policy : PlainPolicy) (c : Case) (s : PlainStatement) (built live : PlainGraph) → IsNet net → OriginsAreRouters net policy.origins → IsIn (case_list net policy) c
    → IsBuilt net (plan_for net s c) built → IsTrimmed built live → IsFaithful net s (holds c.origins) c.external live
case_is_live net policy c s built live rules routers listed is trimmed =
    let origins = known_origins net policy c rules routers (case_known net policy listed.0 c listed.1) in
    built_is_faithful net s (plan_for net s c) built live (record { rules = rules; origins = origins; expressions = refl; from = refl }) is trimmed

-- the case at a place of the list
module _ (net : PlainNet) (policy : PlainPolicy) (j : ℕ) (c : Case) (in_list : slice_get (case_list net policy) j ≡ Some c) where
  is_case : (s : PlainStatement) → statement_at policy c.statement ≡ Some s → IsCase net policy (j + 1) s c
  is_case s statement =
      let after : suc j ≡ j + 1 = omega arith in
      let here : IsCase net policy (suc j) s c = record { case = in_list; statement = statement } in
      subst (λ n. IsCase net policy n s c) after here

  -- it has a statement
  pub statement_there : (s : PlainStatement) × IsCase net policy (j + 1) s c
  statement_there =
      let statement = (case_known net policy j c in_list).statement in
      (statement.0, is_case statement.0 statement.1)

  -- where a limit is passed, it is passed with the case's statement
  pub none_within : (room : ℕ) → OfCase net policy (j + 1) (λ s d. (steps : ℕ) → IsWithin net s d room steps → ⊥) → (steps : ℕ) → IsWithinRoom net policy c room steps → ⊥
  none_within room past steps within = past within.0 c (is_case within.0 within.1) steps within.2

  -- where its graph was given
  module _ (room : ℕ) (given : CaseGraph) (of : OfCase net policy (j + 1) (λ s d. IsGraphOf net room s d given)) where
    made : IsGraphOf net room statement_there.0 c given
    made = of statement_there.0 c statement_there.1

    -- its steps are within the room
    pub given_within : IsWithinRoom net policy c room given.used
    given_within =
        let within = built_within net room statement_there.0 c made.0 made.1.within in
        (statement_there.0, statement_there.1.statement, subst (IsWithin net statement_there.0 c room) (sym made.2) within)

    -- and the graph is live
    pub given_is_live : IsNet net → OriginsAreRouters net policy.origins → IsFaithful net statement_there.0 (holds c.origins) c.external given.graph
    given_is_live rules routers = case_is_live net policy c statement_there.0 made.0 given.graph rules routers (j, in_list) made.1.within.built made.1.trimmed
