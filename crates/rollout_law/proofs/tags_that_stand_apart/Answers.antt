use Rattle.rollout_law.proofs.Standing.{disjoint_tags_are_apart}
use Rattle.rollout_law.proofs.tags_that_stand_apart.Goals as goal

pub returns : goal.returns
returns c = disjoint_tags_are_apart
