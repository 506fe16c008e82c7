use Rattle.case_graphs.proofs.Within.{not_refused}
use Rattle.case_graphs.proofs.laws.cases_within_limits_are_not_refused.Goals as goal

pub returns : goal.returns
returns c = not_refused
