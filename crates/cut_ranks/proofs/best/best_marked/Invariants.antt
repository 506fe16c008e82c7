use Rattle.reach_prune.specs.Searches.{is_marked}
use Rattle.cut_ranks.specs.Tops.{AreBest}
use Rattle.cut_ranks.proofs.best.best_marked.Given as goal

abbrev pub invariant-loop-node : goal.invariant-loop-node
invariant-loop-node l = AreBest l.case (is_marked l.marks) l.routers l.node l.tops.items
