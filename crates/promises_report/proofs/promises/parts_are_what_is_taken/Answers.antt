use Rattle.promises_report.proofs.Taking.{parts_are_what_is_taken}
use Rattle.promises_report.proofs.promises.parts_are_what_is_taken.Goals as goal

pub returns : goal.returns
returns c = parts_are_what_is_taken
