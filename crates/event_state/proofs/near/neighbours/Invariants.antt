use Rattle.std.proofs.Common.{◌≡◌}
use Rattle.std.specs.Prelude.{filter}
use Rattle.net_base.specs.Locations.{numbers_below}
use Rattle.net_base.specs.Network.{linked}
use Rattle.event_state.proofs.near.neighbours.Given as goal

abbrev pub invariant-loop-number : goal.invariant-loop-number
invariant-loop-number l = l.found ≡ filter (linked l.net l.at) (numbers_below l.number)
