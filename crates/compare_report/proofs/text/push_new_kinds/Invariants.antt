use Rattle.std.proofs.Common.{◌≡◌, ◌++◌, take}
use Rattle.std.specs.List.{flat_map}
use Rattle.compare_report.specs.Groups.{seen}
use Rattle.compare_report.specs.Kinds.{kind_lines_unless}
use Rattle.compare_report.proofs.text.push_new_kinds.Given as goal

abbrev pub invariant-loop-kind : goal.invariant-loop-kind
invariant-loop-kind l = l.text.items ≡ l.initial.text.items ++ flat_map (kind_lines_unless l.net l.order (seen l.group) (seen l.before)) (take l.kind-index l.kinds)
