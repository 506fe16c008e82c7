use Rattle.case_core.proofs.OneCause.{one_cause}
use Rattle.case_core.proofs.laws.refusals_exclude_one_another.Goals as goal

pub returns : goal.returns
returns c = one_cause
