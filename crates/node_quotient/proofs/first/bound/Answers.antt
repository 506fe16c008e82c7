use Rattle.std.proofs.Common.{arith}
use Rattle.node_quotient.proofs.Firsts.{bound_more, bound_all}
use Rattle.node_quotient.proofs.first.bound.Goals as goal
use Rattle.node_quotient.proofs.first.bound.Goals.{then-bound-above, else-bound-above}

pub loop-number-preserved : goal.loop-number-preserved
loop-number-preserved c =
    let i = c.loop-number.number-index in
    let numbers = c.args.numbers.now in
    let fits = c.type_inv.numbers i in
    elim c.if-bound-above.branch [
      | then-bound-above w ↦ let e = w.bound-is in let more = w.if-bound-above.true in record {
        few = omega (arith, e, fits);
        above = bound_more numbers i c.loop-number.bound c.if-bound-above.bound c.loop-number.invariant.above (omega (arith, e, more)) (omega (arith, e));
      }
      | else-bound-above w ↦ let e = w.bound-is in let less = w.if-bound-above.false in let few = c.loop-number.invariant.few in record {
        few = omega (arith, e, few);
        above = bound_more numbers i c.loop-number.bound c.if-bound-above.bound c.loop-number.invariant.above (omega (arith, e)) (omega (arith, e, less));
      }
    ]

pub returns : goal.returns
returns c = bound_all c.args.numbers.now c.loop-number.number-index c.loop-number.bound c.loop-number-test.false c.loop-number.invariant.above
