use Rattle.std.proofs.Common.{refl, arith}
use Rattle.list_law.proofs.Exits.{passed_on}
use Rattle.policy_values.proofs.Chains.{goes_on, stops, ends}
use Rattle.policy_values.proofs.reader.Reader.more_names.Goals as goal

pub returns-in_err-name-clause-read : goal.returns-in_err-name-clause-read
returns-in_err-name-clause-read c =
    rw (passed_on c.from_residual.result c.from_residual.ensures.1) (λ memory. stops _ _ _ c.loop-at.invariant.so_far (c.loop-at-test.ensures.here refl) (rw (c.in_err-name.ensures.read memory) refl))

pub loop-at-preserved : goal.loop-at-preserved
loop-at-preserved c =
    let onward = c.loop-at-test.ensures.onward refl in
    let fewer = c.first.ensures.fewer in record {
      so_far =
          rw c.add_named.ensures
          (goes_on _ _ _ c.loop-at.invariant.so_far (c.loop-at-test.ensures.here refl) (rw c.in_ok-name.ensures.read refl) (omega (arith, onward, fewer)));
      stands = c.first.ensures.stands;
      fewer = omega (arith, onward, fewer, c.loop-at.invariant.fewer);
    }

pub returns-clause-read : goal.returns-clause-read
returns-clause-read c =
    let away = c.loop-at-test.ensures.away refl in
    rw away.1 (ends _ _ c.loop-at.invariant.so_far away.0)
