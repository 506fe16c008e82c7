use Rattle.std.proofs.Common.{arith}
use Rattle.policy_base.specs.Policies.{ranking_of}
use Rattle.path_exprs.specs.Shared.{values}
use Rattle.constraint_expand.proofs.Counts.{few}
use Rattle.constraint_expand.proofs.ranked.expand.Goals as goal

pub new-requires-clause-few : goal.new-requires-clause-few
new-requires-clause-few c =
    few c.args.net.now (ranking_of c.args.ranked.now) (values c.expressions_in_order.new.parts) c.in_ok-all.all.items c.alternatives-count.result c.in_ok-all.ensures.0
    c.alternatives-count.ensures (omega (arith, c.if-count-gt-ALTERNATIVES.false))
