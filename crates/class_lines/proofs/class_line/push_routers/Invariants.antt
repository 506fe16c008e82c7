use Rattle.std.proofs.Common.{◌≡◌, ◌++◌, drop}
use Rattle.class_lines.specs.ClassLines.{routers_from}
use Rattle.class_lines.proofs.class_line.push_routers.Given as goal

abbrev pub invariant-loop-r : goal.invariant-loop-r
invariant-loop-r l = l.initial.lines.items ++ routers_from 0 l.routers ≡ l.lines.items ++ routers_from l.r (drop l.r l.routers)
