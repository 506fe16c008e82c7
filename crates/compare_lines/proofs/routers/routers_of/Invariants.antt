use Rattle.std.proofs.Common.{◌≡◌}
use Rattle.net_base.specs.Locations.{numbers_below}
use Rattle.compare_lines.proofs.routers.routers_of.Given as goal

abbrev pub invariant-loop-place : goal.invariant-loop-place
invariant-loop-place l = l.routers.items ≡ numbers_below l.place
