use Rattle.policy_text.proofs.ChoiceMeanings.{choices_mean}
use Rattle.policy_text.proofs.choices.choices_are_alternatives.Goals as goal

pub returns : goal.returns
returns c = choices_mean
