use Rattle.evidence_reuse.proofs.One.{one_reuse}
use Rattle.evidence_reuse.proofs.laws.reuses_are_one.Goals as goal

pub returns : goal.returns
returns c = one_reuse
