use Rattle.std.proofs.Common.{◌≡◌, take}
use Rattle.compare_report.specs.Groups.{seen, prefixes_in}
use Rattle.compare_report.proofs.groups.prefixes_of.Given as goal

abbrev pub invariant-loop-prefix : goal.invariant-loop-prefix
invariant-loop-prefix l = l.list.items ≡ prefixes_in (take l.prefix-index l.order) (seen l.group)
