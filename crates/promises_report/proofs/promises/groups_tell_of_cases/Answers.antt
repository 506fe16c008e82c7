use Rattle.promises_report.proofs.Grouping.{groups_tell}
use Rattle.promises_report.proofs.promises.groups_tell_of_cases.Goals as goal

pub returns : goal.returns
returns c = groups_tell
