use Rattle.propane_run.proofs.ByCommand.Written.{pair}
use Rattle.propane_run.proofs.laws.written_pairs_pass.Goals as goal

pub returns : goal.returns
returns c = λ topology policy config_written evidence_written one other. pair topology policy config_written evidence_written one other
