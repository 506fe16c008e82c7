use Rattle.rest_law.proofs.Firm.{firm_is_outcome, next_settles}
use Rattle.rest_law.proofs.Stages.{routers_settle_in_order}
use Rattle.rest_law.proofs.secure_routers.settled_routes_are_the_outcome.Goals as goal

pub returns-clause-same : goal.returns-clause-same
returns-clause-same c = firm_is_outcome

pub returns-clause-next : goal.returns-clause-next
returns-clause-next c = next_settles

pub returns-clause-order : goal.returns-clause-order
returns-clause-order c = routers_settle_in_order
