use Rattle.std.proofs.Common.{ℕ, ◌<◌, List, ◌++◌, length}
use Rattle.graph_base.specs.Walks.{IsShownWalk}
use Rattle.graph_base.proofs.follow.walk_of.Given as goal

abbrev pub invariant-back : goal.invariant-back
invariant-back l = record {
  node : l.last < length l.graph.nodes;
  walk : (rest : List ℕ) → IsShownWalk l.graph l.last rest → IsShownWalk l.graph l.node (l.walk ++ rest);
}

abbrev pub decreases-back : goal.decreases-back
decreases-back l = l.last
