use Rattle.config_maker.proofs.OneConfiguration.{one_configuration}
use Rattle.config_maker.proofs.law.made_configurations_are_one.Goals as goal

pub returns : goal.returns
returns c = one_configuration
