use Rattle.evidence_law.proofs.FaithfulParts.{faithful_parts}
use Rattle.evidence_law.proofs.faithful_is_walks_and_ranks.Goals as goal

pub returns : goal.returns
returns c = faithful_parts
