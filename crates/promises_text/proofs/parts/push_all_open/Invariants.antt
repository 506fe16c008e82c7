use Rattle.std.proofs.Common.{◌≡◌, ◌++◌, take}
use Rattle.std.specs.List.{flat_map}
use Rattle.promises_text.specs.Texts.{open_line}
use Rattle.promises_text.proofs.parts.push_all_open.Given as goal

abbrev pub invariant-loop-case : goal.invariant-loop-case
invariant-loop-case l = l.text.items ≡ l.initial.text.items ++ flat_map (open_line l.parts) (take l.case-index l.cases)
