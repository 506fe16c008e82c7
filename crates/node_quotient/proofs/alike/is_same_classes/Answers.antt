use Rattle.std.proofs.Common.{sym, ◌∙◌}
use Rattle.node_quotient.proofs.Like.{in_step_alike}
use Rattle.node_quotient.proofs.alike.is_same_classes.Goals as goal

pub returns-then-is_in_step : goal.returns-then-is_in_step
returns-then-is_in_step c = c.if-is_in_step.true ∙ sym (in_step_alike c.args.least.now c.args.list.now c.args.other.now (sym c.is_in_step.ensures ∙ c.if-is_in_step.true))
