use Rattle.routing_law.proofs.Used.{number_is_greatest}
use Rattle.routing_law.proofs.number_is_greatest.Goals as goal

pub returns : goal.returns
returns c = number_is_greatest
