use Rattle.std.proofs.Common.{◌≡◌, ◌++◌, [], take, drop}
use Rattle.compare_report.specs.Groups.{seen}
use Rattle.compare_report.specs.Kinds.{all_kind_lines}
use Rattle.compare_report.proofs.text.push_kinds.Given as goal

abbrev pub invariant-loop-i : goal.invariant-loop-i
invariant-loop-i l =
    l.text.items ++ all_kind_lines l.net l.order (seen l.group) (seen (take l.i l.group)) (seen (drop l.i l.group))
    ≡ l.initial.text.items ++ all_kind_lines l.net l.order (seen l.group) [] (seen l.group)
