use Rattle.stage_classes.proofs.Placing.{cells_are_pairs, cells_have_patterns}
use Rattle.stage_classes.proofs.laws.cells_are_pairs.Goals as goal

pub returns-clause-pairs : goal.returns-clause-pairs
returns-clause-pairs c = cells_are_pairs

pub returns-clause-patterns : goal.returns-clause-patterns
returns-clause-patterns c = cells_have_patterns
