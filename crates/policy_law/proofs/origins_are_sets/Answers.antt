use Rattle.policy_law.proofs.OriginSets.{origins_are_sets}
use Rattle.policy_law.proofs.origins_are_sets.Goals as goal

pub returns : goal.returns
returns c = origins_are_sets
