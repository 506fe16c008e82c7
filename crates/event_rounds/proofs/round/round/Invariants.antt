use Rattle.std.proofs.Common.{◌≡◌, ◌++◌, drop}
use Rattle.event_state.specs.States.{state}
use Rattle.event_rounds.specs.Resting.{round_in}
use Rattle.event_rounds.proofs.round.round.Given as goal

abbrev pub invariant-loop-link : goal.invariant-loop-link
invariant-loop-link l = l.ways.items ++ round_in (drop l.link-index l.world.net.now.links) (state l.world) ≡ round_in l.world.net.now.links (state l.world)
