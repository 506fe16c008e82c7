use Rattle.tag_assign.proofs.Order.{tagging}
use Rattle.tag_assign.proofs.law.tags_keep_their_rule.Goals as goal

pub returns : goal.returns
returns c = tagging
