use Rattle.rollout_stages.proofs.Saying.{rollouts_have_stages, stages_read_as_starts, stages_say_no_more}
use Rattle.rollout_stages.proofs.stages_say_no_more.Goals as goal

pub returns-clause-no_more : goal.returns-clause-no_more
returns-clause-no_more c = stages_say_no_more

pub returns-clause-reads : goal.returns-clause-reads
returns-clause-reads c = stages_read_as_starts

pub returns-clause-stages : goal.returns-clause-stages
returns-clause-stages c = rollouts_have_stages
