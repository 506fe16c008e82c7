-- The ranks that tops tell.
use Rattle.std.specs.Prelude.{◌≡◌, ℕ, Bool, true, List, length, map, Option, Some, None, if◌then◌else◌}
use Rattle.std.specs.List.{IsDistinct}
use Rattle.graph_base.specs.Graphs.{PlainGraph}
use Rattle.graph_base.specs.Rules.{same_pair}
use Rattle.graph_base.specs.Runs.{has_step, place_of}
use Rattle.outcome_base.specs.Outcomes.{Failures}
use Rattle.reach_prune.specs.Searches.{AreLists, is_listed}
use Rattle.impact_law.specs.BestRanks.{rank_by}
use Rattle.cut_ranks.specs.Left.{spares}

-- a node steps to one node at a location
abbrev pub StepsDiffer : PlainGraph → Type 0
StepsDiffer g = IsDistinct same_pair (map (λ (s : ℕ × ℕ). (s.0, place_of g s.1)) g.steps)

-- The lists have the nodes to which a step leads from each, at most one at a location.
pub record AreStepLists (g : PlainGraph) (lists : List (List ℕ)) : Type 0 where
  pub size : length lists ≡ length g.nodes
  pub within : AreLists lists
  pub steps : (a b : ℕ) → is_listed lists a b ≡ has_step g a b
  pub one_step : StepsDiffer g

-- the lists are those of a graph with the nodes of the first
pub record ArePaths (g opened : PlainGraph) (lists : List (List ℕ)) : Type 0 where
  pub nodes : opened.nodes ≡ g.nodes
  pub steps : AreStepLists opened lists

-- a source's session isn't dead, if it is one
abbrev pub leaves : Failures → ℕ → Option ℕ → Bool
leaves f r None = true
leaves f r (Some peer) = spares f r peer

-- the rank that a router's top tells under failures
abbrev pub rank_under : PlainGraph → Failures → (ℕ → Option ℕ) → ℕ → Option ℕ → Option ℕ
rank_under g f top r peer = if leaves f r peer then rank_by g top r peer else None
