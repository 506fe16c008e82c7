use Rattle.claim_law.proofs.Claim.{passing_evidence_keeps_policy}
use Rattle.claim_law.proofs.passing_evidence_keeps_policy.Goals as goal

pub returns : goal.returns
returns c = passing_evidence_keeps_policy
