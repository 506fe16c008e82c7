use Rattle.rollout_rest.proofs.Rollouts.{rollouts_are_right, stages_lead_back}
use Rattle.rollout_rest.proofs.rollouts_are_right.Goals as goal

pub returns-clause-right : goal.returns-clause-right
returns-clause-right c = rollouts_are_right

pub returns-clause-back : goal.returns-clause-back
returns-clause-back c = stages_lead_back
