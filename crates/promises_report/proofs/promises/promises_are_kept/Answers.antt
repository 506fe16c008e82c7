use Rattle.promises_report.proofs.Keeping.{promises_are_kept}
use Rattle.promises_report.proofs.promises.promises_are_kept.Goals as goal

pub returns : goal.returns
returns c = promises_are_kept
