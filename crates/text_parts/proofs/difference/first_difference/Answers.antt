use Rattle.std.proofs.Common.{arith, sym, ◌∙◌}
use Rattle.text_parts.proofs.Texts.{ended}
use Rattle.text_parts.proofs.difference.first_difference.Goals as goal

pub returns : goal.returns
returns c =
    let end = c.min-place-end.ensures in
    sym (ended c.args.one.now c.args.other.now c.loop-place.place c.loop-place.line (omega (arith, c.loop-place-test.false, end))) ∙ c.loop-place.invariant.same
