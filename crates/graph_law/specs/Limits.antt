-- When the graph of a case is within the limits.
use Rattle.std.specs.Prelude.{ℕ, ◌≤◌, length}
use Rattle.policy_base.specs.declared.limits.TheConstants.{ALTERNATIVES}
use Rattle.path_exprs.specs.declared.limits.TheConstants.{NODES}
use Rattle.net_base.specs.Network.{PlainNet}
use Rattle.policy_base.specs.declared.case.Case.{Case}
use Rattle.policy_base.specs.Meaning.{alternative_count}
use Rattle.policy_base.specs.Policies.{PlainStatement}
use Rattle.path_exprs.specs.Standings.{plan_for}
use Rattle.graph_base.specs.Graphs.{PlainGraph}
use Rattle.walk_states.specs.Built.{IsBuilt}

-- no more than 64 alternatives, and a graph with no more than 4,096 nodes, and with steps that there is room for
pub record IsBuiltWithin (net : PlainNet) (room : ℕ) (s : PlainStatement) (c : Case) (g : PlainGraph) : Type 0 where
  pub ranks : alternative_count s.ranked ≤ ALTERNATIVES
  pub built : IsBuilt net (plan_for net s c) g
  pub states : length g.nodes ≤ NODES
  pub steps : length g.steps ≤ room
