use Rattle.std.proofs.Common.{arith}
use Rattle.std.proofs.lemmas.Bool.{both_ways}
use Rattle.bit_rows.proofs.Words.{clear_word, none_outside, some_outside}
use Rattle.bit_rows.proofs.kernels.outside_is_empty.Goals as goal

pub returns-then-not-lanes_are_inside : goal.returns-then-not-lanes_are_inside
returns-then-not-lanes_are_inside c = (
  λ h. absurd (cc),
  λ h. absurd (both_ways _ c.if-not-lanes_are_inside.true (c.lanes_are_inside.ensures.1
      (λ j le lt. clear_word c.args.a.now c.args.b.now c.args.c.now j (λ j. (c.type_inv.a j).fits) (λ j. (c.type_inv.c j).fits) h))),
)

pub returns-then-a-i-ne0 : goal.returns-then-a-i-ne0
returns-then-a-i-ne0 c = (λ h. absurd (cc), λ h. absurd (some_outside c.args.a.now c.args.b.now c.args.c.now c.loop-i.i (λ j. (c.type_inv.a j).fits) (λ j. (c.type_inv.c j).fits) (omega arith) h))

pub returns : goal.returns
returns c = (λ h. none_outside c.args.a.now c.args.b.now c.args.c.now c.loop-i.i c.loop-i-test.false (λ j. (c.type_inv.c j).fits) c.loop-i.invariant, λ h. cc)
