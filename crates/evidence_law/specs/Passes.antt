-- Evidence that makes a configuration right.
use Rattle.std.specs.Prelude.{◌≡◌, ℕ, ◌-◌, ◌<◌, ◌≤◌, IsTrue, List, [], ◌∷◌, length, map, Some, slice_get, IsSome}
use Rattle.policy_base.specs.declared.limits.TheConstants.{ALTERNATIVES}
use Rattle.evidence_law.specs.declared.limits.TheConstants.{STEPS}
use Rattle.net_base.specs.Network.{PlainNet, is_router}
use Rattle.net_base.specs.Sets.{holds}
use Rattle.policy_base.specs.declared.case.Case.{Case}
use Rattle.policy_base.specs.Policies.{PlainPolicy, PlainStatement, statement_at}
use Rattle.policy_base.specs.Cases.{case_list}
use Rattle.policy_base.specs.Meaning.{alternative_count}
use Rattle.path_exprs.specs.Standings.{IsWalked, plan_for}
use Rattle.graph_base.specs.Graphs.{IsGraph}
use Rattle.graph_base.specs.Runs.{place_of, rank_at}
use Rattle.graph_base.specs.Rules.{MeetsRules}
use Rattle.config_base.specs.Configs.{PlainConfig}
use Rattle.evidence_base.specs.Made.{PlainCaseEvidence, number_at, IsConfigOf, AreTags}
use Rattle.evidence_law.specs.Faithful.{IsFaithful, may_start, permits}

-- a router of a case that its statement claims: a walk may start there, and a permitted one does
pub record IsClaimed (net : PlainNet) (s : PlainStatement) (c : Case) (r : ℕ) : Type 0 where
  pub at_router : IsTrue (is_router net r)
  pub may : IsTrue (may_start (holds c.origins) s r)
  pub starts : (rest : List ℕ) × IsTrue (permits net (holds c.origins) s (r ∷ rest))

-- what is asked of the graph of a case
pub record IsCaseGraph (net : PlainNet) (s : PlainStatement) (c : PlainCaseEvidence) : Type 0 where
  -- starts and steps name nodes of the graph
  pub graph : IsGraph c.graph
  -- it has a run for exactly the walks that can still be permitted, with their ranks
  pub faithful : IsFaithful net s (holds c.case.origins) c.case.external c.graph
  -- and every node at a claimed router has a rank
  pub ranked : (n : ℕ) → n < length c.graph.nodes → IsClaimed net s c.case (place_of c.graph n) → IsSome (rank_at c.graph n)

-- The evidence is for the cases of the policy, with such graphs; the tags differ, and the configuration is made of it.
pub record IsMadeOf (net : PlainNet) (policy : PlainPolicy) (config : PlainConfig) (cs : List PlainCaseEvidence) : Type 0 where
  pub cases : map (λ (c : PlainCaseEvidence). c.case) cs ≡ case_list net policy
  pub graphs : (k : ℕ) (c : PlainCaseEvidence) (s : PlainStatement) → slice_get cs k ≡ Some c → statement_at policy c.case.statement ≡ Some s → IsCaseGraph net s c
  pub tags : AreTags net cs
  pub lines : IsConfigOf net policy cs config

-- ---- limits

-- the most steps over all cases, before they are trimmed
abbrev pub all_steps : ℕ
all_steps = STEPS

-- These cases are within the limits one after the other, with room for so many steps: no more than 64 alternatives, 4,096
-- standings and the room that the earlier ones leave, all counted before anything is trimmed.
abbrev pub AreWithin : PlainNet → PlainPolicy → ℕ → List Case → Type 0
AreWithin net policy room [] = Unit {0}
AreWithin net policy room (c ∷ cs) =
    (s : PlainStatement) × (steps : ℕ) × (statement_at policy c.statement ≡ Some s) × (alternative_count s.ranked ≤ ALTERNATIVES)
    × IsWalked net (plan_for net s c) steps × (steps ≤ room) × AreWithin net policy (room - steps) cs

-- The evidence passes: the policy's cases are within the limits, and the numbers meet the rules.
pub record Passes (net : PlainNet) (policy : PlainPolicy) (config : PlainConfig) (cs : List PlainCaseEvidence) : Type 0 where
  pub limits : AreWithin net policy all_steps (case_list net policy)
  pub made : IsMadeOf net policy config cs
  pub rules : (k : ℕ) (c : PlainCaseEvidence) (s : PlainStatement) → slice_get cs k ≡ Some c → statement_at policy c.case.statement ≡ Some s
      → MeetsRules net (IsClaimed net s c.case) c.case.external c.graph (number_at c)
