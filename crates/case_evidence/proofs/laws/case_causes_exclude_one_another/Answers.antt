use Rattle.case_evidence.proofs.OneVerdict.{one_cause}
use Rattle.case_evidence.proofs.laws.case_causes_exclude_one_another.Goals as goal

pub returns : goal.returns
returns c = one_cause
