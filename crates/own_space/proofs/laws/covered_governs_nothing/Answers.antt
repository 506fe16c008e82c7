use Rattle.own_space.proofs.Emptied.{covered_governs_nothing}
use Rattle.own_space.proofs.laws.covered_governs_nothing.Goals as goal

pub returns : goal.returns
returns c = covered_governs_nothing
