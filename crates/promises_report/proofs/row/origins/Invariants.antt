use Rattle.std.proofs.Common.{◌≡◌, map}
use Rattle.net_base.specs.Locations.{numbers_below}
use Rattle.promises_report.specs.Telling.{promises_in}
use Rattle.promises_report.specs.Standings.{as_origin}
use Rattle.promises_report.proofs.row.origins.Given as goal

abbrev pub invariant-loop-place : goal.invariant-loop-place
invariant-loop-place l = l.list ≡ map (as_origin l.case (promises_in l.told)) (numbers_below l.place)
