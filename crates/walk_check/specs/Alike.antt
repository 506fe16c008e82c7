-- Graphs in which the same paths have runs.
use Rattle.std.specs.Prelude.{◌≡◌, ℕ, nat_eq, List, map, not, is_some}
use Rattle.std.specs.List.{IsDistinct}
use Rattle.graph_base.specs.Graphs.{PlainGraph}
use Rattle.graph_base.specs.Rules.{same_pair}
use Rattle.graph_base.specs.Runs.{place_of, run}
use Rattle.node_classes.specs.Classes.{Tied, class_in}
use Rattle.walk_check.specs.declared.comparing.WalkClasses.{WalkClasses}

-- at most one start at a location, and at most one step from a node to a location
pub record IsSingleStepped (g : PlainGraph) : Type 0 where
  pub one_start : IsDistinct nat_eq (map (place_of g) g.starts)
  pub one_step : IsDistinct same_pair (map (λ (s : ℕ × ℕ). (s.0, place_of g s.1)) g.steps)

-- the same paths have runs, which end in nodes of one class
abbrev pub AreAlike : PlainGraph → PlainGraph → WalkClasses → Type 0
AreAlike t g k = (path : List ℕ) → Tied (λ p n. class_in k.live p ≡ class_in k.graph n) (run t path) (run g path)

-- some path has a run in one of them alone
abbrev pub AreUnlike : PlainGraph → PlainGraph → Type 0
AreUnlike t g = (path : List ℕ) × (is_some (run t path) ≡ not (is_some (run g path)))
