use Rattle.case_evidence.proofs.OneVerdict.{one_accepted}
use Rattle.case_evidence.proofs.laws.accepted_cases_are_one.Goals as goal

pub returns : goal.returns
returns c = one_accepted
