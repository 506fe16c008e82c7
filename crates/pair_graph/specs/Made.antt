-- The graph of pairs.
use Rattle.std.specs.Prelude.{◌≡◌, ℕ, ◌<◌, false, IsTrue, List, Some, None, length, map, slice_get}
use Rattle.std.specs.Option.{option_and_then}
use Rattle.net_base.specs.Locations.{numbers_below}
use Rattle.graph_base.specs.declared.graph.Node.{Node}
use Rattle.graph_base.specs.Graphs.{PlainGraph}
use Rattle.graph_base.specs.Runs.{has_step, is_start, place_of, run}
use Rattle.graph_base.specs.Walks.{IsEnteredFromBefore, IsFirstBefore, IsShownWalk}
use Rattle.pair_graph.specs.declared.pair.NodePair.{NodePair}
use Rattle.pair_graph.specs.Growth.{finder}
use Rattle.pair_graph.specs.Order.{IsInOrder}
use Rattle.pair_graph.specs.Pairs.{run_pair, step_pair}

-- a node for a pair, at its location
abbrev pub pair_node : NodePair → Node
pair_node x = record { loc = x.place; listener = false; rank = None }

-- the graph over these pairs, of which the first are starts
abbrev pub graph_over : List NodePair → ℕ → List (ℕ × ℕ) → PlainGraph
graph_over pairs starts steps = record { nodes = map pair_node pairs; starts = numbers_below starts; steps = steps }

-- Each path leads to the node of the pair of nodes to which it leads in the two graphs, and nowhere if it leads to none in both.
abbrev pub StandsForBoth : PlainGraph → PlainGraph → List NodePair → PlainGraph → Type 0
StandsForBoth g h pairs p = (path : List ℕ) → option_and_then (slice_get pairs) (run p path) ≡ run_pair g h path

-- the walk by which a node is shown leads to its pair
abbrev pub AreShown : PlainGraph → PlainGraph → List NodePair → PlainGraph → Type 0
AreShown g h pairs p = (n : ℕ) (x : NodePair) (walk : List ℕ) → slice_get pairs n ≡ Some x → IsShownWalk p n walk → run_pair g h walk ≡ Some x

-- the pair of a node steps to the pairs of the nodes to which the node does, and to no others
pub record AreStepsOfBoth (g h : PlainGraph) (pairs : List NodePair) (p : PlainGraph) : Type 0 where
  pub goes : (m n : ℕ) (x y : NodePair) → IsTrue (has_step p m n) → slice_get pairs m ≡ Some x → slice_get pairs n ≡ Some y → step_pair g h x y.place ≡ Some y
  pub all : (m l : ℕ) (x y : NodePair) → slice_get pairs m ≡ Some x → step_pair g h x l ≡ Some y → (n : ℕ) × IsTrue (has_step p m n) × (slice_get pairs n ≡ Some y)

-- The graph stands for two graphs.
pub record IsPairGraph (g h : PlainGraph) (pairs : List NodePair) (p : PlainGraph) : Type 0 where
  pub runs : StandsForBoth g h pairs p
  pub shown : AreShown g h pairs p
  pub steps : AreStepsOfBoth g h pairs p
  pub size : length pairs ≡ length p.nodes
  pub places : (n : ℕ) (x : NodePair) → slice_get pairs n ≡ Some x → place_of p n ≡ x.place
  pub entered : IsEnteredFromBefore p
  pub order : IsInOrder p

-- each node that is no start was found from the first node that steps to it
abbrev pub AreFinders : PlainGraph → List ℕ → Type 0
AreFinders p before = (n : ℕ) → n < length p.nodes → is_start p n ≡ false → IsFirstBefore p (finder before n) n × (finder before n < n)
