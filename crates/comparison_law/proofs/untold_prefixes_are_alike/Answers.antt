use Rattle.comparison_law.proofs.Told.{untold_prefixes}
use Rattle.comparison_law.proofs.untold_prefixes_are_alike.Goals as goal

pub returns : goal.returns
returns c = untold_prefixes
