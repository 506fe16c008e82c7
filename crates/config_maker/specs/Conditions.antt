-- What is asked of cases and their graphs, so that a lawful configuration can be made of them.
use Rattle.std.specs.Prelude.{◌≡◌, ◌≢◌, ℕ, ◌<◌, ◌^◌, ◌||◌, IsTrue, nat_eq, List, [], length, map, Some, slice_get}
use Rattle.std.specs.List.{AllByRecursion, IsDistinct}
use Rattle.net_base.specs.Network.{PlainNet, is_peer, is_router}
use Rattle.policy_base.specs.declared.case.Case.{Case}
use Rattle.policy_base.specs.Policies.{PlainPolicy}
use Rattle.graph_base.specs.Graphs.{IsGraph, PlainGraph}
use Rattle.graph_base.specs.Runs.{place_of, is_listener, is_start, has_step}
use Rattle.graph_base.specs.Rules.{same_pair}
use Rattle.evidence_base.specs.Made.{PlainCaseEvidence, patterns_of}

-- a graph with at most one start at a location, at most one step from a node to a location, no steps from other nodes
-- at peers than starts, and only steps into peers to nodes that hear
pub record IsSingle (net : PlainNet) (g : PlainGraph) : Type 0 where
  pub one_start : IsDistinct nat_eq (map (place_of g) g.starts)
  pub one_step : IsDistinct same_pair (map (λ (s : ℕ × ℕ). (s.0, place_of g s.1)) g.steps)
  pub from : (m n : ℕ) → IsTrue (has_step g m n) → IsTrue (is_start g m || is_router net (place_of g m))
  pub heard : (m n : ℕ) → IsTrue (has_step g m n) → IsTrue (is_peer net (place_of g n)) → IsTrue (is_listener g n)

-- so are the graphs of cases
abbrev pub AreSingle : PlainNet → List PlainCaseEvidence → Type 0
AreSingle net cs = (k : ℕ) (c : PlainCaseEvidence) → slice_get cs k ≡ Some c → IsSingle net c.graph

-- and their starts and steps name nodes of theirs
abbrev pub AreGraphs : List PlainCaseEvidence → Type 0
AreGraphs cs = (k : ℕ) (c : PlainCaseEvidence) → slice_get cs k ≡ Some c → IsGraph c.graph

-- each case has a pattern, and there are fewer cases than a class has numbers
pub record AreClasses (policy : PlainPolicy) (cases : List Case) : Type 0 where
  pub count : length cases < 2 ^ 32
  pub patterns : AllByRecursion (λ (c : Case). patterns_of policy c ≢ []) cases
