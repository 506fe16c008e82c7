use Rattle.config_text.proofs.Lawful.{one_configuration}
use Rattle.config_text.proofs.law.texts_spell_one_configuration.Goals as goal

pub returns : goal.returns
returns c = one_configuration
