use Rattle.routing_law.proofs.Back.{lines_unique}
use Rattle.routing_law.proofs.outcome_is_unique.Goals as goal

pub returns : goal.returns
returns c = lines_unique
