use Rattle.rollout_mixtures.proofs.Alike.{resting_alikes_hold_theirs}
use Rattle.rollout_mixtures.proofs.resting_alikes_hold_theirs.Goals as goal

pub returns : goal.returns
returns c = resting_alikes_hold_theirs
