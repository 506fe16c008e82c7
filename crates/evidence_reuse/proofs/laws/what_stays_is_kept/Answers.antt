use Rattle.evidence_reuse.proofs.One.{kept}
use Rattle.evidence_reuse.proofs.laws.what_stays_is_kept.Goals as goal

pub returns : goal.returns
returns c = kept
