use Rattle.case_core.proofs.OneCause.{not_refused}
use Rattle.case_core.proofs.laws.given_cases_are_not_refused.Goals as goal

pub returns : goal.returns
returns c = not_refused
