use Rattle.rollout_stages.proofs.Moments.{every_moment_of_a_rollout_is_right}
use Rattle.rollout_stages.proofs.every_moment_of_a_rollout_is_right.Goals as goal

pub returns : goal.returns
returns c = every_moment_of_a_rollout_is_right
