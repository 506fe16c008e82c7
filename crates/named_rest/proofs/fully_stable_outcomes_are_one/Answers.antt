use Rattle.named_rest.proofs.One.{fully_stable_are_one}
use Rattle.named_rest.proofs.fully_stable_outcomes_are_one.Goals as goal

pub returns : goal.returns
returns c = fully_stable_are_one
