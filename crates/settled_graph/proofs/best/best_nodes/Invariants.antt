use Rattle.reach_prune.specs.Searches.{is_marked}
use Rattle.settled_graph.specs.Best.{AreBest}
use Rattle.settled_graph.proofs.best.best_nodes.Given as goal

abbrev pub invariant-loop-node : goal.invariant-loop-node
invariant-loop-node l = AreBest l.graph l.numbers (is_marked l.marks) l.node l.best.items
