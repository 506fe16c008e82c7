use Rattle.rollout_mixtures.proofs.Layered.{resting_mixtures_are_layered}
use Rattle.rollout_mixtures.proofs.resting_mixtures_are_layered.Goals as goal

pub returns : goal.returns
returns c = resting_mixtures_are_layered
