use Rattle.multipath_law.proofs.Spread.{passing_evidence_spreads_right}
use Rattle.multipath_law.proofs.passing_evidence_spreads_right.Goals as goal

pub returns : goal.returns
returns c = passing_evidence_spreads_right
