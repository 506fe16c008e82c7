use Rattle.compile_core.proofs.NoEvidence.{no_evidence}
use Rattle.compile_core.proofs.laws.policies_without_numbers_have_no_evidence.Goals as goal

pub returns : goal.returns
returns c = λ net policy config cs number g r refused passes. no_evidence net policy config cs passes number g r refused
