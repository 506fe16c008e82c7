use Rattle.compare_law.proofs.Failing.{nothing_lost, ranks_no_greater}
use Rattle.compare_law.proofs.kept_walks_keep_paths_in_reach.Goals as goal

pub returns-clause-reach : goal.returns-clause-reach
returns-clause-reach c = nothing_lost

pub returns-clause-ranks : goal.returns-clause-ranks
returns-clause-ranks c = ranks_no_greater
