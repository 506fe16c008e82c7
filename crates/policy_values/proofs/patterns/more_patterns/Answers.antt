use Rattle.std.proofs.Common.{refl, arith}
use Rattle.list_law.proofs.Exits.{passed_on}
use Rattle.policy_values.specs.PatternValues.{plain_patterns}
use Rattle.policy_values.proofs.Chains.{goes_on, stops, ends}
use Rattle.policy_values.proofs.PatternsBehind.{count_more, link_ok, link_err}
use Rattle.policy_values.proofs.patterns.more_patterns.Goals as goal

pub returns-in_err-next-clause-read : goal.returns-in_err-next-clause-read
returns-in_err-next-clause-read c =
    rw (passed_on c.from_residual.result c.from_residual.ensures.1)
    (λ memory. stops _ _ _ c.loop-at.invariant.so_far (c.loop-at-test.ensures.here refl)
    (link_err c.args.text.now c.loop-at.at (plain_patterns c.loop-at.found) _ _ (c.in_err-next.ensures.read memory)))

pub loop-at-preserved : goal.loop-at-preserved
loop-at-preserved c =
    let onward = c.loop-at-test.ensures.onward refl in
    let fewer = c.pattern.ensures.fewer in
    let more = count_more (plain_patterns c.loop-at.found) (plain_patterns c.take.new.self) c.in_ok-next.next c.in_ok-take.ensures in record {
      so_far =
          goes_on _ _ _ c.loop-at.invariant.so_far (c.loop-at-test.ensures.here refl)
          (link_ok c.args.text.now c.loop-at.at (plain_patterns c.loop-at.found) (plain_patterns c.take.new.self) _ _ c.in_ok-next.next c.in_ok-next.ensures.read c.in_ok-take.ensures)
          (omega (arith, onward, fewer));
      few = omega (arith, onward, fewer, more, c.loop-at.invariant.few);
      stands = c.pattern.ensures.stands;
      fewer = omega (arith, onward, fewer, c.loop-at.invariant.fewer);
    }

pub returns-clause-read : goal.returns-clause-read
returns-clause-read c =
    let away = c.loop-at-test.ensures.away refl in
    rw away.1 (ends _ _ c.loop-at.invariant.so_far away.0)
