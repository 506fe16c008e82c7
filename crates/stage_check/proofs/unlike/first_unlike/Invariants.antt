use Rattle.std.proofs.Common.{◌≡◌, ◌+◌, drop}
use Rattle.stage_check.specs.Unlike.{first_unlike, unlike_from}
use Rattle.stage_check.proofs.unlike.first_unlike.Given as goal

abbrev pub invariant-loop-i : goal.invariant-loop-i
invariant-loop-i l = first_unlike l.old l.new ≡ unlike_from (l.i + 1) (drop l.i l.old) (drop l.i l.new)
