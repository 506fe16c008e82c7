use Rattle.judging_jobs.proofs.MigrateLaws.{is_migrated, migrates}
use Rattle.judging_jobs.proofs.laws.lawful_texts_are_migrated.Goals as goal

pub returns-clause-only : goal.returns-clause-only
returns-clause-only c = is_migrated

pub returns-clause-all : goal.returns-clause-all
returns-clause-all c = migrates
