use Rattle.std.proofs.Common.{◌≡◌, ◌++◌}
use Rattle.std.specs.List.{flat_map}
use Rattle.net_base.specs.Locations.{numbers_below}
use Rattle.multipath_report.specs.Told.{router_line_in}
use Rattle.multipath_report.proofs.lines.push_routers.Given as goal

abbrev pub invariant-loop-place : goal.invariant-loop-place
invariant-loop-place l = l.text.items ≡ l.initial.text.items ++ flat_map (router_line_in l.told) (numbers_below l.place)
