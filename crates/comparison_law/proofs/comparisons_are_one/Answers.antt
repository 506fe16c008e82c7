use Rattle.comparison_law.proofs.One.{comparisons_are_one}
use Rattle.comparison_law.proofs.comparisons_are_one.Goals as goal

pub returns : goal.returns
returns c = comparisons_are_one
