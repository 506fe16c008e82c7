use Rattle.std.proofs.Common.{◌≡◌, ◌++◌}
use Rattle.pair_changes.specs.Places.{router_places}
use Rattle.pair_changes.proofs.places.push_routers.Given as goal

abbrev pub invariant-loop-number : goal.invariant-loop-number
invariant-loop-number l = l.places.items ≡ l.initial.places.items ++ router_places l.net l.cases l.number
