use Rattle.routing_law.proofs.Reach.{reach_ends}
use Rattle.routing_law.proofs.Rounds.{settling_ends}
use Rattle.routing_law.proofs.settling_ends.Goals as goal

pub returns-clause-reach : goal.returns-clause-reach
returns-clause-reach c = reach_ends

pub returns-clause-rounds : goal.returns-clause-rounds
returns-clause-rounds c = settling_ends
