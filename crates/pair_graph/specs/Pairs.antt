-- Pairs of nodes to which one walk leads in two graphs.
use Rattle.std.specs.Prelude.{ℕ, List, [], ◌∷◌, Option, Some, None}
use Rattle.std.specs.Option.{option_and_then}
use Rattle.graph_base.specs.Graphs.{PlainGraph}
use Rattle.graph_base.specs.Runs.{run, start_at, step_at}
use Rattle.pair_graph.specs.declared.pair.NodePair.{NodePair}
use Rattle.pair_graph.specs.Growth.{Walks}

-- the pair of two nodes at a location, unless both are missing
abbrev pub joined : ℕ → Option ℕ → Option ℕ → Option NodePair
joined l (Some m) second = Some (record { place = l; first = Some m; second = second })
joined l None (Some n) = Some (record { place = l; first = None; second = Some n })
joined l None None = None

-- the starts at a location
abbrev pub start_pair : PlainGraph → PlainGraph → ℕ → Option NodePair
start_pair g h l = joined l (start_at g l) (start_at h l)

-- the nodes to which a pair steps at a location
abbrev pub step_pair : PlainGraph → PlainGraph → NodePair → ℕ → Option NodePair
step_pair g h x l = joined l (option_and_then (λ m. step_at g m l) x.first) (option_and_then (λ n. step_at h n l) x.second)

-- the nodes in which the runs along a path end
abbrev pub run_pair : PlainGraph → PlainGraph → List ℕ → Option NodePair
run_pair g h [] = None
run_pair g h (l ∷ ls) = joined l (run g (l ∷ ls)) (run h (l ∷ ls))

-- walks of pairs in two graphs
abbrev pub walks_of : PlainGraph → PlainGraph → Walks
walks_of g h = record { start = start_pair g h; next = step_pair g h }
