use Rattle.claim_law.proofs.OfNet.{made_configurations_are_of_their_net}
use Rattle.claim_law.proofs.made_configurations_are_of_their_net.Goals as goal

pub returns : goal.returns
returns c = made_configurations_are_of_their_net
