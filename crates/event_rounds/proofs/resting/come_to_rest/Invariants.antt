use Rattle.std.proofs.Common.{◌≡◌, ℕ, ◌≤◌, ◌<◌, ◌*◌, length}
use Rattle.event_base.specs.Steps.{IsQuiet}
use Rattle.event_state.specs.States.{setting, speakers, state}
use Rattle.event_rounds.specs.Resting.{rounds_in, world_in}
use Rattle.event_rounds.proofs.resting.come_to_rest.Given as goal

abbrev pub invariant-loop-rounds : goal.invariant-loop-rounds
invariant-loop-rounds l = record {
  setting : setting l.world ≡ setting l.fn.world;
  world : state l.world ≡ world_in l.fn.world.net.now.links (speakers l.fn.world) l.rounds (state l.fn.world);
  waited : (k : ℕ) → k < l.rounds → IsQuiet (world_in l.fn.world.net.now.links (speakers l.fn.world) k (state l.fn.world)) → ⊥;
  deliveries : l.deliveries ≡ length (rounds_in l.fn.world.net.now.links (speakers l.fn.world) l.rounds (state l.fn.world));
  room : l.deliveries ≤ l.rounds * 18446744073709551616;
}
