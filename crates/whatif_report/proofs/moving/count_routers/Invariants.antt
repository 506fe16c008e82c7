use Rattle.std.proofs.Common.{◌≡◌, ◌≤◌}
use Rattle.std.specs.List.{count_by}
use Rattle.net_base.specs.Locations.{numbers_below}
use Rattle.net_base.specs.Sets.{holds}
use Rattle.whatif_report.proofs.moving.count_routers.Given as goal

abbrev pub invariant-loop-place : goal.invariant-loop-place
invariant-loop-place l = record {
  count : l.count ≡ count_by (holds l.set) (numbers_below l.place);
  few : l.count ≤ l.place;
}
