use Rattle.routing_law.proofs.Back.{lines_exist}
use Rattle.routing_law.proofs.outcome_exists.Goals as goal

pub returns : goal.returns
returns c = lines_exist
