use Rattle.claim_law.proofs.Taken.{made_configurations_take_permitted}
use Rattle.claim_law.proofs.made_configurations_take_permitted.Goals as goal

pub returns : goal.returns
returns c = made_configurations_take_permitted
