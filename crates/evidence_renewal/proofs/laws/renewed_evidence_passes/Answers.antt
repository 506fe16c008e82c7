use Rattle.evidence_renewal.proofs.Passing.{passing}
use Rattle.evidence_renewal.proofs.laws.renewed_evidence_passes.Goals as goal

pub returns : goal.returns
returns c = passing
