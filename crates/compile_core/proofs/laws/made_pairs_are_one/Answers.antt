use Rattle.compile_core.proofs.OneRefusal.{one_pair}
use Rattle.compile_core.proofs.laws.made_pairs_are_one.Goals as goal

pub returns : goal.returns
returns c = one_pair
