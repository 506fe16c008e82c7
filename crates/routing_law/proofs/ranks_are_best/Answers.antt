use Rattle.routing_law.proofs.Right.{best_rank, best_offer}
use Rattle.routing_law.proofs.ranks_are_best.Goals as goal

pub returns-clause-routers : goal.returns-clause-routers
returns-clause-routers c = best_rank

pub returns-clause-sessions : goal.returns-clause-sessions
returns-clause-sessions c = best_offer
