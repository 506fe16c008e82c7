use Rattle.std.proofs.Common.{◌≡◌, take}
use Rattle.class_lines.specs.ClassLines.{lines_about}
use Rattle.class_lines.proofs.about.lines_about.Given as goal

abbrev pub invariant-loop-line : goal.invariant-loop-line
invariant-loop-line l = l.about.items ≡ lines_about l.patterns (take l.line-index l.lines)
