use Rattle.std.proofs.Common.{◌≡◌, map}
use Rattle.net_base.specs.Locations.{neighbours, numbers_below}
use Rattle.event_state.proofs.near.all_neighbours.Given as goal

abbrev pub invariant-loop-number : goal.invariant-loop-number
invariant-loop-number l = l.all.items ≡ map (neighbours l.net) (numbers_below l.number)
