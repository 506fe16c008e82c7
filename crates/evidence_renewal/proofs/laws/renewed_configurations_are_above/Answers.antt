use Rattle.evidence_renewal.proofs.Above.{above}
use Rattle.evidence_renewal.proofs.laws.renewed_configurations_are_above.Goals as goal

pub returns : goal.returns
returns c = above
