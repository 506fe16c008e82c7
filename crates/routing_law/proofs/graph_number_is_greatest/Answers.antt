use Rattle.routing_law.proofs.Highest.{greatest, chosen_is_reached}
use Rattle.routing_law.proofs.graph_number_is_greatest.Goals as goal

pub returns-clause-greatest : goal.returns-clause-greatest
returns-clause-greatest c = greatest

pub returns-clause-reached : goal.returns-clause-reached
returns-clause-reached c = chosen_is_reached
