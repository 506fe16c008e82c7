use Rattle.std.proofs.Common.{◌≡◌, ◌+◌, ◌++◌, drop}
use Rattle.class_lines.specs.ClassLines.{sessions_from}
use Rattle.class_lines.proofs.class_line.push_sessions.Given as goal

abbrev pub invariant-loop-s : goal.invariant-loop-s
invariant-loop-s l = l.initial.lines.items ++ sessions_from l.router 1 l.sessions ≡ l.lines.items ++ sessions_from l.router (l.s + 1) (drop l.s l.sessions)
