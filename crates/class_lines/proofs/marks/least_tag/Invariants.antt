use Rattle.std.proofs.Common.{◌≡◌, take}
use Rattle.class_lines.specs.Marks.{least_of_tags}
use Rattle.class_lines.proofs.marks.least_tag.Given as goal

abbrev pub invariant-loop-tag : goal.invariant-loop-tag
invariant-loop-tag l = l.least ≡ least_of_tags (take l.tag-index l.tags)
