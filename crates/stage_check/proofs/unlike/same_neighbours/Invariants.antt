use Rattle.std.proofs.Common.{◌≡◌, drop}
use Rattle.stage_check.specs.Unlike.{same_neighbours}
use Rattle.stage_check.proofs.unlike.same_neighbours.Given as goal

abbrev pub invariant-loop-i : goal.invariant-loop-i
invariant-loop-i l = same_neighbours l.a l.b ≡ same_neighbours (drop l.i l.a) (drop l.i l.b)
