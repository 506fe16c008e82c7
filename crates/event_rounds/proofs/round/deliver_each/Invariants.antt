use Rattle.std.proofs.Common.{◌≡◌, drop}
use Rattle.event_base.specs.Steps.{run}
use Rattle.event_state.specs.States.{setting, speakers, state}
use Rattle.rest_law.specs.Rounds.{deliveries}
use Rattle.event_rounds.proofs.round.deliver_each.Given as goal

abbrev pub invariant-loop-way : goal.invariant-loop-way
invariant-loop-way l = record {
  setting : setting l.world ≡ setting l.fn.world;
  world : run (speakers l.fn.world) (deliveries (drop l.way-index l.ways)) (state l.world) ≡ run (speakers l.fn.world) (deliveries l.ways) (state l.fn.world);
}
