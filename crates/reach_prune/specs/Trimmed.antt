-- A graph without the nodes from which no rank can be reached.
use Rattle.std.specs.Prelude.{◌≡◌, ◌↔◌, ℕ, ◌+◌, ◌<◌, Bool, ◌&&◌, IsTrue, List, [], ◌∷◌, length, map, filter, IsSome, if◌then◌else◌}
use Rattle.list_law.specs.Counts.{kept_below}
use Rattle.graph_base.specs.declared.graph.Node.{Node}
use Rattle.graph_base.specs.Graphs.{PlainGraph}
use Rattle.graph_base.specs.Runs.{rank_at, Reaches}

-- a node with a rank can be reached
abbrev pub CanBeRanked : PlainGraph → ℕ → Type 0
CanBeRanked g n = (m : ℕ) × Reaches g n m × IsSome (rank_at g m)

-- the nodes that are kept, of nodes that are numbered from k
abbrev pub nodes_kept : (ℕ → Bool) → ℕ → List Node → List Node
nodes_kept keep k [] = []
nodes_kept keep k (node ∷ nodes) = if keep k then node ∷ nodes_kept keep (k + 1) nodes else nodes_kept keep (k + 1) nodes

abbrev pub both_kept : (ℕ → Bool) → ℕ × ℕ → Bool
both_kept keep step = keep step.0 && keep step.1

abbrev pub renumbered : (ℕ → Bool) → ℕ × ℕ → ℕ × ℕ
renumbered keep step = (kept_below keep step.0, kept_below keep step.1)

-- the graph of the nodes that are kept and the steps between them; the numbers close up in order
abbrev pub graph_kept : (ℕ → Bool) → PlainGraph → PlainGraph
graph_kept keep g = record {
  nodes = nodes_kept keep 0 g.nodes;
  starts = map (kept_below keep) (filter keep g.starts);
  steps = map (renumbered keep) (filter (both_kept keep) g.steps);
}

-- What is left of a graph where the nodes are kept from which a node with a rank can be reached.
abbrev pub IsTrimmed : PlainGraph → PlainGraph → Type 0
IsTrimmed g trimmed = (keep : ℕ → Bool) × ((n : ℕ) → n < length g.nodes → IsTrue (keep n) ↔ CanBeRanked g n) × (trimmed ≡ graph_kept keep g)
