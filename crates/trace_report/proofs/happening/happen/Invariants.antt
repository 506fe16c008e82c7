use Rattle.std.proofs.Common.{◌≡◌, ◌+◌, ◌++◌, drop}
use Rattle.event_base.specs.Steps.{run}
use Rattle.event_state.specs.States.{setting, speakers, state}
use Rattle.trace_report.specs.Refusals.{refused_from}
use Rattle.trace_report.proofs.happening.happen.Given as goal

abbrev pub invariant-loop-event : goal.invariant-loop-event
invariant-loop-event l = record {
  number : l.number ≡ l.event-index;
  setting : setting l.world ≡ setting l.fn.world;
  refused : l.refused.items ++ refused_from (speakers l.fn.world) (l.event-index + 1) (drop l.event-index l.events) (state l.world) ≡ refused_from (speakers l.fn.world) 1 l.events (state l.fn.world);
  world : run (speakers l.fn.world) (drop l.event-index l.events) (state l.world) ≡ run (speakers l.fn.world) l.events (state l.fn.world);
}
