use Rattle.policy_law.proofs.Uses.{expression_value}
use Rattle.policy_law.proofs.expressions_have_their_value.Goals as goal

pub returns : goal.returns
returns c = expression_value
