use Rattle.rollout_stages.proofs.Still.{first_loads_change_nothing, last_loads_change_nothing}
use Rattle.rollout_stages.proofs.rollouts_are_still.Goals as goal

pub returns-clause-first : goal.returns-clause-first
returns-clause-first c = first_loads_change_nothing

pub returns-clause-last : goal.returns-clause-last
returns-clause-last c = last_loads_change_nothing
