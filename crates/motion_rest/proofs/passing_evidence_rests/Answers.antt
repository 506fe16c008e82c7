use Rattle.motion_rest.proofs.Resting.{passing_evidence_rests}
use Rattle.motion_rest.proofs.passing_evidence_rests.Goals as goal

pub returns : goal.returns
returns c = passing_evidence_rests
