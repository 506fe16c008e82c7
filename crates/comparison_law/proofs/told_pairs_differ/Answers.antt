use Rattle.comparison_law.proofs.Told.{told_pairs}
use Rattle.comparison_law.proofs.told_pairs_differ.Goals as goal

pub returns : goal.returns
returns c = told_pairs
