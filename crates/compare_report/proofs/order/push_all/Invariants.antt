use Rattle.std.proofs.Common.{◌≡◌, ◌++◌, take}
use Rattle.compare_report.specs.Groups.{prefixes_of}
use Rattle.compare_report.proofs.order.push_all.Given as goal

abbrev pub invariant-loop-origin : goal.invariant-loop-origin
invariant-loop-origin l = l.list.items ≡ l.initial.list.items ++ prefixes_of (take l.origin-index l.origins)
