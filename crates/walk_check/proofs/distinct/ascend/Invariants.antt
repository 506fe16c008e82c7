use Rattle.walk_check.proofs.KeysAscend.{Ascends}
use Rattle.walk_check.proofs.distinct.ascend.Given as goal

abbrev pub invariant-loop-place : goal.invariant-loop-place
invariant-loop-place l = Ascends l.keys l.place
