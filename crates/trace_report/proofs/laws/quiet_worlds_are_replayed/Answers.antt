use Rattle.trace_report.proofs.Replayed.{quiet_worlds_are_replayed}
use Rattle.trace_report.proofs.laws.quiet_worlds_are_replayed.Goals as goal

pub returns : goal.returns
returns c = quiet_worlds_are_replayed
