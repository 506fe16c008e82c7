use Rattle.std.proofs.Common.{◌≡◌, ◌++◌, filter, take}
use Rattle.class_lines.specs.Marks.{prefs_in, within}
use Rattle.class_lines.proofs.marks.push_within.Given as goal

abbrev pub invariant-loop-line : goal.invariant-loop-line
invariant-loop-line l = l.low.items ≡ l.initial.low.items ++ filter (λ n. within n l.greatest) (prefs_in (take l.line-index l.lines))
