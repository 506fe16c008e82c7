use Rattle.std.proofs.Common.{◌≡◌, ◌++◌, map, take}
use Rattle.class_lines.specs.ClassLines.{own_line}
use Rattle.class_lines.proofs.class_line.push_own.Given as goal

abbrev pub invariant-loop-line : goal.invariant-loop-line
invariant-loop-line l = l.lines.items ≡ l.initial.lines.items ++ map (own_line l.router) (take l.line-index l.own)
