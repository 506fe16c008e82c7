use Rattle.rollout_mixtures.proofs.Staying.{alikes_come_to_rest, rollouts_run_either}
use Rattle.rollout_mixtures.proofs.alikes_come_to_rest.Goals as goal

pub returns-clause-either : goal.returns-clause-either
returns-clause-either c = rollouts_run_either

pub returns-clause-rest : goal.returns-clause-rest
returns-clause-rest c = alikes_come_to_rest
