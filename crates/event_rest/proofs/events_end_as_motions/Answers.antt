use Rattle.event_rest.proofs.Corner.{events_end, rounds_are_rounds}
use Rattle.event_rest.proofs.events_end_as_motions.Goals as goal

pub returns-clause-rounds : goal.returns-clause-rounds
returns-clause-rounds c = rounds_are_rounds

pub returns-clause-ends : goal.returns-clause-ends
returns-clause-ends c = events_end
