use Rattle.compile_core.proofs.OneRefusal.{made_passes}
use Rattle.compile_core.proofs.laws.made_evidence_passes.Goals as goal

pub returns : goal.returns
returns c = made_passes
