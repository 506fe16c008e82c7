use Rattle.compare_law.proofs.Same.{same_served}
use Rattle.compare_law.proofs.same_policies_are_served_alike.Goals as goal

pub returns : goal.returns
returns c = same_served
