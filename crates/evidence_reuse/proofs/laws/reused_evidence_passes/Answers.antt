use Rattle.evidence_reuse.proofs.Passing.{passing}
use Rattle.evidence_reuse.proofs.laws.reused_evidence_passes.Goals as goal

pub returns : goal.returns
returns c = passing
