-- A graph by location.
use Rattle.std.specs.Prelude.{◌≡◌, ℕ, ◌+◌, ◌≤◌, None, length}
use Rattle.graph_base.specs.Graphs.{PlainGraph}
use Rattle.graph_base.specs.Runs.{step_at}
use Rattle.pair_graph.specs.declared.side.Side.{Side}
use Rattle.pair_graph.specs.declared.sides.Sides.{Sides}
use Rattle.pair_graph.specs.Ways.{AreStarts, AreSteps}

-- the starts and steps of a graph
pub record IsSide (g : PlainGraph) (side : Side) : Type 0 where
  pub starts : AreStarts g side.starts.items
  pub steps : AreSteps g side.ways.items
  pub nodes : (n l : ℕ) → length side.begins.items ≤ n + 1 → step_at g n l ≡ None

-- two graphs by location
pub record AreSides (g h : PlainGraph) (sides : Sides) : Type 0 where
  pub first : IsSide g sides.first
  pub second : IsSide h sides.second
