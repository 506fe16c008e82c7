use Rattle.evidence_verdicts.proofs.OneVerdict.{one_verdict}
use Rattle.evidence_verdicts.proofs.laws.verdicts_are_one.Goals as goal

pub returns : goal.returns
returns c = one_verdict
