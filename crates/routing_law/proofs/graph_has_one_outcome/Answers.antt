use Rattle.routing_law.proofs.Rounds.{exists}
use Rattle.routing_law.proofs.Unique.{unique}
use Rattle.routing_law.proofs.graph_has_one_outcome.Goals as goal

pub returns-clause-exists : goal.returns-clause-exists
returns-clause-exists c = exists

pub returns-clause-unique : goal.returns-clause-unique
returns-clause-unique c = unique
