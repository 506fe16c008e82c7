use Rattle.compare_law.proofs.First.{first_walks}
use Rattle.compare_law.proofs.first_walks_are_one.Goals as goal

pub returns : goal.returns
returns c = first_walks
