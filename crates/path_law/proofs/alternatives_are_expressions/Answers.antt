use Rattle.path_law.proofs.RankedLaws.{held-alternatives}
use Rattle.path_law.proofs.alternatives_are_expressions.Goals as goal

pub returns : goal.returns
returns c = held-alternatives
