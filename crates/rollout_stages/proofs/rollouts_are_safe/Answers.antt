use Rattle.rollout_stages.proofs.Safe.{rollouts_are_safe}
use Rattle.rollout_stages.proofs.rollouts_are_safe.Goals as goal

pub returns : goal.returns
returns c = rollouts_are_safe
