use Rattle.evidence_renewal.proofs.Apart.{apart}
use Rattle.evidence_renewal.proofs.laws.renewed_configurations_are_apart.Goals as goal

pub returns : goal.returns
returns c = apart
