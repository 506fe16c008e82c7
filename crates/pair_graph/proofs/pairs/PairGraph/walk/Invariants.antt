use Rattle.std.proofs.Common.{ℕ, ◌<◌, List, ◌++◌, length}
use Rattle.graph_base.specs.Walks.{IsShownWalk}
use Rattle.pair_graph.proofs.pairs.PairGraph.walk.Given as goal

abbrev pub invariant-back : goal.invariant-back
invariant-back l = record {
  node : l.last < length l.self.graph.nodes;
  walk : (rest : List ℕ) → IsShownWalk l.self.graph l.last rest → IsShownWalk l.self.graph l.node (l.walk ++ rest);
}

abbrev pub decreases-back : goal.decreases-back
decreases-back l = l.last
