use Rattle.std.proofs.Common.{◌+◌, ◌&&◌, drop, arith, refl, sym, ap, ◌∙◌}
use Rattle.std.proofs.lemmas.Bool.{eq-eqb}
use Rattle.std.proofs.lemmas.List.{drop_all}
use Rattle.node_quotient.specs.Alike.{are_in_step}
use Rattle.node_quotient.proofs.Like.{in_step_more, lengths_apart}
use Rattle.node_quotient.proofs.alike.is_in_step.Goals as goal

pub returns-then-list-other : goal.returns-then-list-other
returns-then-list-other c = sym (lengths_apart c.args.least.now c.args.list.now c.args.other.now c.if-list-other.true)

pub loop-i-preserved : goal.loop-i-preserved
loop-i-preserved c =
    let least = c.args.least.now in
    let list = c.args.list.now in
    let other = c.args.other.now in
    let i = c.loop-i.i in
    record {
      end = omega (arith, c.loop-i-test.true);
      left = c.loop-i.invariant.left ∙ in_step_more least list other i c.loop-i-test.true (omega (arith, c.loop-i-test.true, c.if-list-other.false))
          ∙ ap (λ same. same && are_in_step least (drop (i + 1) list) (drop (i + 1) other)) (eq-eqb _ _ c.if-least-list.false);
    }

pub returns : goal.returns
returns c =
    let ended = drop_all c.loop-i.i c.args.list.now c.loop-i-test.false in
    let others = drop_all c.loop-i.i c.args.other.now (omega (arith, c.loop-i-test.false, c.if-list-other.false)) in
    sym (c.loop-i.invariant.left ∙ rw (ended, others) refl)
