use Rattle.rollout_mixtures.proofs.Parts.{rollouts_are_between}
use Rattle.rollout_mixtures.proofs.Rest.{mixtures_come_to_rest}
use Rattle.rollout_mixtures.proofs.mixtures_come_to_rest.Goals as goal

pub returns-clause-between : goal.returns-clause-between
returns-clause-between c = rollouts_are_between

pub returns-clause-rest : goal.returns-clause-rest
returns-clause-rest c = mixtures_come_to_rest
