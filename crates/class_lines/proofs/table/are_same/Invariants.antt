use Rattle.std.proofs.Common.{◌≡◌, length, drop}
use Rattle.class_lines.specs.ClassLines.{same_lines}
use Rattle.class_lines.proofs.table.are_same.Given as goal

abbrev pub invariant-loop-i : goal.invariant-loop-i
invariant-loop-i l = same_lines l.old l.new ≡ same_lines (drop l.i l.old) (drop l.i l.new)
