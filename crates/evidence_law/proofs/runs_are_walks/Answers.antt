use Rattle.evidence_law.proofs.RunWalks.{runs_are_walks}
use Rattle.evidence_law.proofs.runs_are_walks.Goals as goal

pub returns : goal.returns
returns c = runs_are_walks
