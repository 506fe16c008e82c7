use Rattle.evidence_law.proofs.ExistenceLaw.{stable_outcomes_exist}
use Rattle.evidence_law.proofs.stable_outcomes_exist.Goals as goal

pub returns : goal.returns
returns c = stable_outcomes_exist
