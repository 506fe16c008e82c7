use Rattle.std.proofs.Common.{◌≡◌, false}
use Rattle.std.specs.List.{list_any}
use Rattle.net_base.specs.Locations.{numbers_below}
use Rattle.promises_report.specs.Telling.{promises_in}
use Rattle.promises_report.proofs.case.passes_some.Given as goal

abbrev pub invariant-loop-place : goal.invariant-loop-place
invariant-loop-place l = list_any (promises_in l.told).passes (numbers_below l.place) ≡ false
