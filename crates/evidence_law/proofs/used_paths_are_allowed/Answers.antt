use Rattle.evidence_law.proofs.RightLaw.{used_paths_are_allowed}
use Rattle.evidence_law.proofs.used_paths_are_allowed.Goals as goal

pub returns : goal.returns
returns c = used_paths_are_allowed
