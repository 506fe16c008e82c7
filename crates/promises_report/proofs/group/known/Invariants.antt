use Rattle.std.proofs.Common.{◌≡◌, map}
use Rattle.net_base.specs.Locations.{numbers_below}
use Rattle.promises_report.specs.Groups.{known_at}
use Rattle.promises_report.proofs.group.known.Given as goal

abbrev pub invariant-loop-place : goal.invariant-loop-place
invariant-loop-place l = l.list ≡ map (known_at l.one l.other) (numbers_below l.place)
