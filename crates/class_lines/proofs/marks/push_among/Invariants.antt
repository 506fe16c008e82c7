use Rattle.std.proofs.Common.{◌≡◌, ◌++◌, filter, take}
use Rattle.class_lines.specs.Marks.{is_among, tags_in}
use Rattle.class_lines.proofs.marks.push_among.Given as goal

abbrev pub invariant-loop-line : goal.invariant-loop-line
invariant-loop-line l = l.shared.items ≡ l.initial.shared.items ++ filter (is_among l.tags.keys) (tags_in (take l.line-index l.lines))
