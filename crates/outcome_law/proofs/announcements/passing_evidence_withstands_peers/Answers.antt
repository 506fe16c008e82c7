use Rattle.outcome_law.proofs.Withstanding.{passing_evidence_withstands_peers}
use Rattle.outcome_law.proofs.announcements.passing_evidence_withstands_peers.Goals as goal

pub returns : goal.returns
returns c = passing_evidence_withstands_peers
