use Rattle.std.proofs.Common.{ℕ, ◌+◌, ◌-◌, length}
use Rattle.pair_graph.specs.Nexts.{AreNextsBelow}
use Rattle.pair_graph.specs.Ways.{IsCut, both_taken, place_of}
use Rattle.pair_graph.proofs.merging.merge.Given as goal

abbrev pub invariant-merge : goal.invariant-merge
invariant-merge l = (b : ℕ) × AreNextsBelow (both_taken l.first l.second) l.pairs.items b × IsCut place_of l.first b l.i × IsCut place_of l.second b l.j

abbrev pub decreases-merge : goal.decreases-merge
decreases-merge l = (length l.first - l.i) + (length l.second - l.j)
