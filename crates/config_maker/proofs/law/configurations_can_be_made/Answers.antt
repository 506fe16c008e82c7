use Rattle.config_maker.proofs.Possible.{configuration}
use Rattle.config_maker.proofs.law.configurations_can_be_made.Goals as goal

pub returns : goal.returns
returns c = configuration
