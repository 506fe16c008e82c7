use Rattle.stage_law.proofs.Mixed.{stages_make_a_rollout}
use Rattle.stage_law.proofs.stages_make_a_rollout.Goals as goal

pub returns : goal.returns
returns c = stages_make_a_rollout
