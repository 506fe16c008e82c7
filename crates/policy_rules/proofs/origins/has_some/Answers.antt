use Rattle.std.proofs.Common.{◌≡◌, ◌+◌, ◌-◌, ◌∙◌, suc, sym, arith}
use Rattle.policy_rules.proofs.SomeFrom.{has_some_past}
use Rattle.policy_rules.proofs.origins.has_some.Goals as goal

pub loop-number-preserved : goal.loop-number-preserved
loop-number-preserved c =
    let more : c.args.first + c.args.count - c.loop-number.number ≡ suc (c.args.first + c.args.count - (c.loop-number.number + 1)) = omega arith in
    sym (has_some_past c.args.set.now c.loop-number.number _ _ more (rw c.new.ensures at (sym c.holds.ensures ∙ c.if-holds.false))) ∙ c.loop-number.invariant
