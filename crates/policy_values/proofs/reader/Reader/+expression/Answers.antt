use Rattle.std.proofs.Common.{refl, arith}
use Rattle.list_law.proofs.Exits.{passed_on}
use Rattle.policy_grammar.specs.Left.{left}
use Rattle.policy_rules.specs.KnownView.{plain_names}
use Rattle.policy_values.specs.Operators.{level_of}
use Rattle.policy_values.specs.Parts.{parts_value, step_onto}
use Rattle.policy_values.proofs.Chains.{begins, stops, ends}
use Rattle.policy_values.proofs.Sides.{link_at, side_on}
use Rattle.policy_values.proofs.Depths.{inner_at-none, inner_at-some}
use Rattle.policy_values.proofs.reader.Reader.+expression.Goals as goal

pub atom-returns-clause-read : goal.atom-returns-clause-read
atom-returns-clause-read t c =
    let away = c.past.ensures.away c.if-past.false in
    rw away.0 (rw away.1 at c.call.ensures.read)

pub joined-returns-in_err-side-clause-read : goal.joined-returns-in_err-side-clause-read
joined-returns-in_err-side-clause-read t c =
    rw (passed_on c.from_residual.result c.from_residual.ensures.1) (λ memory. rw (c.in_err-side.ensures.read memory) refl)

pub joined-returns-clause-read : goal.joined-returns-clause-read
joined-returns-clause-read t c = rw c.in_ok-side.ensures.read c.more_sides.ensures.read

pub inner-returns-then-depth-eq0-clause-read : goal.inner-returns-then-depth-eq0-clause-read
inner-returns-then-depth-eq0-clause-read t c =
    λ memory. rw (c.refused.ensures c.args.self.now.text.now)
    (inner_at-none (step_onto c.args.self.now.text.now c.args.self.now.whole.now.net.now (plain_names c.args.self.now.known.now)) c.args.depth
    (parts_value c.args.parts.now) (left c.args.self.now.text.now c.args.at.now) c.if-depth-eq0.true)

pub inner-returns-clause-read : goal.inner-returns-clause-read
inner-returns-clause-read t c =
    rw (inner_at-some (step_onto c.args.self.now.text.now c.args.self.now.whole.now.net.now (plain_names c.args.self.now.known.now)) c.args.depth
    (parts_value c.args.parts.now) (left c.args.self.now.text.now c.args.at.now) c.if-depth-eq0.false)
    c.joined.ensures.read

pub more_sides-loop-operator-init : goal.more_sides-loop-operator-init
more_sides-loop-operator-init t c = record {
  so_far =
      begins c.symbol-symbol.result _ (link_at c.args.self.now.text.now c.args.self.now.whole.now.net.now (plain_names c.args.self.now.known.now) (level_of c.args.operator) c.args.depth)
      (parts_value c.args.parts.now) (left c.args.self.now.text.now c.args.at.now) c.symbol-symbol.ensures;
  place = refl;
  stands = c.requires.stands;
  fewer = omega arith;
}

pub more_sides-returns-in_err-side-clause-read : goal.more_sides-returns-in_err-side-clause-read
more_sides-returns-in_err-side-clause-read t c =
    rw (passed_on c.from_residual.result c.from_residual.ensures.1)
    (λ memory. stops _ _ _ c.loop-operator.invariant.so_far (c.loop-operator-test.ensures.here refl) (rw (c.in_err-side.ensures.read memory) refl))

pub more_sides-loop-operator-preserved : goal.more_sides-loop-operator-preserved
more_sides-loop-operator-preserved t c =
    let onward = c.loop-operator-test.ensures.onward refl in
    let fewer = c.side.ensures.fewer in record {
      so_far =
          side_on c.args.self.now.text.now c.args.self.now.whole.now.net.now (plain_names c.args.self.now.known.now) (level_of c.args.operator) c.args.depth c.symbol-symbol.result
          (parts_value c.loop-operator.parts) (parts_value c.side.new.parts) (parts_value c.take_sides.new.self) c.loop-operator.at c.loop-operator.place _ _ _ _
          c.loop-operator.invariant.place (c.loop-operator-test.ensures.here refl) c.in_ok-side.ensures.read c.in_ok-take_sides.ensures
          (omega (arith, onward, fewer)) c.loop-operator.invariant.so_far;
      place = refl;
      stands = c.side.ensures.stands;
      fewer = omega (arith, onward, fewer, c.loop-operator.invariant.fewer);
    }

pub more_sides-returns-clause-read : goal.more_sides-returns-clause-read
more_sides-returns-clause-read t c =
    let away = c.loop-operator-test.ensures.away refl in
    rw away.1 (ends _ _ c.loop-operator.invariant.so_far away.0)
