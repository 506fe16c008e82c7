use Rattle.std.proofs.Common.{◌∙◌, sym, arith}
use Rattle.walk_check.proofs.KeysAscend.{ascending-distinct, ascends-next, ascends-one}
use Rattle.walk_check.proofs.distinct.ascend.Goals as goal

pub loop-place-init : goal.loop-place-init
loop-place-init c = ascends-one c.args.keys.now

pub loop-place-preserved : goal.loop-place-preserved
loop-place-preserved c =
    ascends-next c.args.keys.now c.loop-place.place c.index-keys-place.result c.index-keys-place-in-loop-place.result c.loop-place.auto.place c.loop-place-test.true
    c.index-keys-place.is c.index-keys-place-in-loop-place.is (sym c.comes_before.ensures ∙ c.if-not-comes_before.false) c.loop-place.invariant

pub returns : goal.returns
returns c = λ yes.
    let end = c.loop-place-test.false in
    ascending-distinct c.args.keys.now (λ k a b lt. c.loop-place.invariant k a b (omega (arith, lt, end)))
