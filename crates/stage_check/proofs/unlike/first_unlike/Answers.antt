use Rattle.std.proofs.Common.{◌≡◌, ◌+◌, ◌∙◌, length, min, Some, sym, ap, arith}
use Rattle.stage_check.proofs.Ends.{ends_at}
use Rattle.stage_check.proofs.unlike.first_unlike.Goals as goal

pub returns-else-old-new : goal.returns-else-old-new
returns-else-old-new c =
    let same : c.min-count.result ≡ c.loop-i.i = omega (arith, c.loop-i.auto.i-end, c.loop-i-test.false) in
    let is : c.loop-i.i ≡ min (length c.args.old.now) (length c.args.new.now) = omega (arith, same, c.min-count.ensures) in
    sym
    (c.loop-i.invariant
    ∙ ends_at (c.loop-i.i + 1) c.loop-i.i c.args.old.now c.args.new.now is (λ e. omega (arith, e, c.if-old-new.false))
    ∙ ap (λ k. Some (k + 1)) (sym same))
