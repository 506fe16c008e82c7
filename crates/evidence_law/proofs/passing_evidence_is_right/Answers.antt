use Rattle.evidence_law.proofs.RightLaw.{passing_evidence_is_right}
use Rattle.evidence_law.proofs.passing_evidence_is_right.Goals as goal

pub returns : goal.returns
returns c = passing_evidence_is_right
