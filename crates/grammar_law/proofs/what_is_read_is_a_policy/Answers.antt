use Rattle.grammar_law.proofs.TextLaws.{read-policy}
use Rattle.grammar_law.proofs.what_is_read_is_a_policy.Goals as goal

pub returns : goal.returns
returns c = read-policy
