use Rattle.std.proofs.Common.{◌≡◌, take}
use Rattle.std.specs.List.{list_any}
use Rattle.net_base.specs.declared.numbers.Tag.{Tag}
use Rattle.config_base.specs.Lines.{same_tag}
use Rattle.class_lines.specs.Marks.{tags_in}
use Rattle.class_lines.proofs.marks.tags_of.Given as goal

abbrev pub invariant-loop-line : goal.invariant-loop-line
invariant-loop-line l = (t : Tag) → list_any (same_tag t) l.tags.keys ≡ list_any (same_tag t) (tags_in (take l.line-index l.lines))
