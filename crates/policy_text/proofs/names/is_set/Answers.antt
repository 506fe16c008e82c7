use Rattle.std.proofs.Common.{rules}
use Rattle.policy_text.proofs.names.is_set.Goals as goal

pub returns : goal.returns
returns c = (search rules, c.are_words.ensures)
