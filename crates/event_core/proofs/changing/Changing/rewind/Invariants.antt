use Rattle.std.proofs.Common.{◌≡◌, length}
use Rattle.event_state.specs.States.{setting, state}
use Rattle.event_core.specs.Changes.{undone}
use Rattle.event_core.proofs.changing.Changing.rewind.Given as goal

abbrev pub invariant-loop-change : goal.invariant-loop-change
invariant-loop-change l = record {
  same : l.self.world.ghost_name ≡ l.fn.self.world.ghost_name;
  setting : setting l.self.world.now ≡ setting l.fn.self.world.now;
  left : undone l.fn.self.world.now.net.now l.self.log.now.items (state l.self.world.now) ≡ undone l.fn.self.world.now.net.now l.fn.self.log.now.items (state l.fn.self.world.now);
}

abbrev pub decreases-loop-change : goal.decreases-loop-change
decreases-loop-change l = length l.self.log.now.items
