use Rattle.comparison_law.proofs.One.{changes_are_one}
use Rattle.comparison_law.proofs.changes_are_one.Goals as goal

pub returns : goal.returns
returns c = changes_are_one
