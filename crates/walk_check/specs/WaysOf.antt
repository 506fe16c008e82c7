-- The steps of two graphs in one list of ways.
use Rattle.std.specs.Prelude.{ℕ, ◌+◌, List, ◌++◌, length, map}
use Rattle.graph_base.specs.Graphs.{PlainGraph}
use Rattle.graph_base.specs.Runs.{place_of}
use Rattle.node_classes.specs.declared.way.Way.{Way}

-- the way from a root to a start, and that of a step, where the nodes are counted from `first`
abbrev pub start_way : PlainGraph → ℕ → ℕ → ℕ → Way
start_way g first root s = record { from = root; at = place_of g s; to = first + s }

abbrev pub step_way : PlainGraph → ℕ → ℕ × ℕ → Way
step_way g first s = record { from = first + s.0; at = place_of g s.1; to = first + s.1 }

abbrev pub ways_of : PlainGraph → ℕ → ℕ → List Way
ways_of g first root = map (start_way g first root) g.starts ++ map (step_way g first) g.steps

-- how many nodes both graphs have
abbrev pub both_sizes : PlainGraph → PlainGraph → ℕ
both_sizes t g = length t.nodes + length g.nodes

-- the nodes of one graph and behind them those of the other, and then the root of each
abbrev pub ways_of_both : PlainGraph → PlainGraph → List Way
ways_of_both t g = ways_of t 0 (both_sizes t g) ++ ways_of g (length t.nodes) (both_sizes t g + 1)
