use Rattle.grammar_law.proofs.TextLaws.{policy-read}
use Rattle.grammar_law.proofs.every_policy_is_read.Goals as goal

pub returns : goal.returns
returns c = policy-read
