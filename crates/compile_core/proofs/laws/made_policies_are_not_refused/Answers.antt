use Rattle.compile_core.proofs.OneRefusal.{not_refused}
use Rattle.compile_core.proofs.laws.made_policies_are_not_refused.Goals as goal

pub returns : goal.returns
returns c = not_refused
