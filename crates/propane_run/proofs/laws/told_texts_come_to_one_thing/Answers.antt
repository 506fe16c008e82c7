use Rattle.propane_run.specs.Run.{Job}
use Rattle.propane_run.specs.Words.{names_read}
use Rattle.propane_run.proofs.Dispatch.{job_is}
use Rattle.run_base.proofs.Told.{told_one}
use Rattle.propane_run.proofs.laws.told_texts_come_to_one_thing.Goals as goal

pub returns : goal.returns
returns c = λ holds words command one other a b. told_one holds (names_read words command) (Job command) (job_is command).one one other a b
