use Rattle.preference_check.proofs.Looping.{loop_of_itself}
use Rattle.preference_check.proofs.laws.loop_rule_of_itself.Goals as goal

pub returns : goal.returns
returns c = loop_of_itself
