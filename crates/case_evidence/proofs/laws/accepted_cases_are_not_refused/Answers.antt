use Rattle.case_evidence.proofs.OneVerdict.{not_refused}
use Rattle.case_evidence.proofs.laws.accepted_cases_are_not_refused.Goals as goal

pub returns : goal.returns
returns c = not_refused
