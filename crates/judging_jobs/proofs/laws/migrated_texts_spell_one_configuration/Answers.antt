use Rattle.judging_jobs.proofs.MigrateLaws.{one_migrated}
use Rattle.judging_jobs.proofs.laws.migrated_texts_spell_one_configuration.Goals as goal

pub returns : goal.returns
returns c = one_migrated
