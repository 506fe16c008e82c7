use Rattle.std.proofs.Common.{◌∙◌}
use Rattle.compare_report.proofs.order.is_there.Goals as goal

pub returns : goal.returns
returns c = c.contains.ensures ∙ c.requires c.args.prefix
