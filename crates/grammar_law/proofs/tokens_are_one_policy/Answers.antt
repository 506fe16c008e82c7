use Rattle.grammar_law.proofs.TextLaws.{one_policy}
use Rattle.grammar_law.proofs.tokens_are_one_policy.Goals as goal

pub returns : goal.returns
returns c = one_policy
