use Rattle.std.proofs.Common.{◌≡◌, false}
use Rattle.std.specs.List.{list_any}
use Rattle.net_base.specs.Locations.{numbers_below}
use Rattle.promises_report.specs.Groups.{differ_at}
use Rattle.promises_report.proofs.group.some_differ.Given as goal

abbrev pub invariant-loop-place : goal.invariant-loop-place
invariant-loop-place l = list_any (differ_at l.one l.other) (numbers_below l.place) ≡ false
