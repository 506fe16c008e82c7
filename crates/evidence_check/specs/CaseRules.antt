-- What is known of one case and its statement.
use Rattle.std.specs.Prelude.{◌≡◌, ◌↔◌, ℕ, IsTrue, List, Some}
use Rattle.net_base.specs.Network.{PlainNet, is_router}
use Rattle.net_base.specs.Sets.{holds}
use Rattle.policy_base.specs.Policies.{PlainPolicy, PlainStatement, statement_at}
use Rattle.graph_base.specs.Graphs.{PlainGraph}
use Rattle.graph_base.specs.Ranked.{IsRankedRouter}
use Rattle.graph_base.specs.Rules.{steps_on}
use Rattle.graph_base.specs.Runs.{place_of}
use Rattle.evidence_base.specs.Made.{PlainCaseEvidence, case_at}
use Rattle.evidence_law.specs.Faithful.{IsFaithful}
use Rattle.evidence_law.specs.Passes.{IsClaimed}

-- the case with a number, and its statement
pub record IsOfCase (policy : PlainPolicy) (cs : List PlainCaseEvidence) (k : ℕ) (s : PlainStatement) (c : PlainCaseEvidence) : Type 0 where
  pub at : case_at cs k ≡ Some c
  pub statement : statement_at policy c.case.statement ≡ Some s

-- a graph that is faithful to the case
abbrev pub IsLive : PlainNet → PlainStatement → PlainCaseEvidence → PlainGraph → Type 0
IsLive net s c live = IsFaithful net s (holds c.case.origins) c.case.external live

-- steps to nodes that don't hear lead to routers
abbrev pub LeadsToRouters : PlainNet → PlainGraph → Type 0
LeadsToRouters net g = (m t : ℕ) → IsTrue (steps_on g m t) → IsTrue (is_router net (place_of g t))

-- the claimed routers are those at which a node has a rank
abbrev pub AreClaimedWhereRanked : PlainNet → PlainStatement → PlainCaseEvidence → Type 0
AreClaimedWhereRanked net s c = (l : ℕ) → IsRankedRouter net c.graph l ↔ IsClaimed net s c.case l
