use Rattle.policy_pairs.proofs.OnePairs.{one_pairs}
use Rattle.policy_pairs.proofs.laws.pairs_are_one.Goals as goal

pub returns : goal.returns
returns c = λ net old new xs ys kept kept_too one other. one_pairs net old new kept kept_too xs ys one other
