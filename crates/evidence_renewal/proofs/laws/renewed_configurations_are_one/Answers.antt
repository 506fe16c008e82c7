use Rattle.evidence_renewal.proofs.One.{one_renewal}
use Rattle.evidence_renewal.proofs.laws.renewed_configurations_are_one.Goals as goal

pub returns : goal.returns
returns c = one_renewal
