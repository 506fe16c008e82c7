use Rattle.compile_core.proofs.OneRefusal.{one_refusal}
use Rattle.compile_core.proofs.laws.refusals_of_policies_exclude_one_another.Goals as goal

pub returns : goal.returns
returns c = one_refusal
