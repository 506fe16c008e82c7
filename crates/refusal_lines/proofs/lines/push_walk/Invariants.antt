use Rattle.std.proofs.Common.{◌≡◌, ◌++◌, take}
use Rattle.refusal_lines.specs.RefusalLines.{walk_text}
use Rattle.refusal_lines.proofs.lines.push_walk.Given as goal

abbrev pub invariant-loop-at : goal.invariant-loop-at
invariant-loop-at l = l.line.items ≡ l.initial.line.items ++ walk_text l.net (take l.at-index l.walk)
