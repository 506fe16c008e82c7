use Rattle.net_base.proofs.SetLaws.{same_sets}
use Rattle.net_base.proofs.laws.sets_of_the_same_locations_are_one.Goals as goal

pub returns : goal.returns
returns c = same_sets
