use Rattle.propane_run.proofs.Dispatch.{job_is}
use Rattle.propane_run.proofs.laws.commands_say_one_thing.Goals as goal

pub returns : goal.returns
returns c = λ command bs one other. (job_is command).one bs one other
