use Rattle.renewal_law.proofs.Layered.{resting_changes_are_layered}
use Rattle.renewal_law.proofs.resting_changes_are_layered.Goals as goal

pub returns : goal.returns
returns c = resting_changes_are_layered
