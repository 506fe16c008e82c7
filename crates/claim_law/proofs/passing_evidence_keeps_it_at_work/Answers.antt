use Rattle.claim_law.proofs.Claim.{passing_evidence_keeps_it_at_work}
use Rattle.claim_law.proofs.passing_evidence_keeps_it_at_work.Goals as goal

pub returns : goal.returns
returns c = passing_evidence_keeps_it_at_work
