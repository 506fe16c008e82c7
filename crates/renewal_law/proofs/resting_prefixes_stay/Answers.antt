use Rattle.renewal_law.proofs.Layered.{resting_prefixes_stay}
use Rattle.renewal_law.proofs.resting_prefixes_stay.Goals as goal

pub returns : goal.returns
returns c = resting_prefixes_stay
