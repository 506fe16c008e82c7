use Rattle.std.proofs.Common.{◌≡◌, refl, arith}
use Rattle.list_law.proofs.Exits.{passed_on}
use Rattle.net_base.proofs.StepLemmas.{ok_same}
use Rattle.policy_values.specs.CallReaders.{plain_sets, with_set}
use Rattle.policy_values.proofs.Chains.{goes_on, stops, ends}
use Rattle.policy_values.proofs.ReadsOver.{read_same}
use Rattle.policy_values.proofs.reader.Reader.more_sets.Goals as goal

pub returns-in_err-set-clause-read : goal.returns-in_err-set-clause-read
returns-in_err-set-clause-read c =
    rw (passed_on c.from_residual.result c.from_residual.ensures.1) (λ memory. stops _ _ _ c.loop-at.invariant.so_far (c.loop-at-test.ensures.here refl) (rw (c.in_err-set.ensures.read memory) refl))

pub loop-at-preserved : goal.loop-at-preserved
loop-at-preserved c =
    let onward = c.loop-at-test.ensures.onward refl in
    let fewer = c.set.ensures.fewer in
    let made : with_set (plain_sets c.loop-at.sets) c.in_ok-set.set ≡ plain_sets c.take.new.self = ok_same _ _ c.in_ok-take.ensures in record {
      so_far = goes_on _ _ _ c.loop-at.invariant.so_far (c.loop-at-test.ensures.here refl) (rw c.in_ok-set.ensures.read (read_same _ _ _ made)) (omega (arith, onward, fewer));
      stands = c.set.ensures.stands;
      fewer = omega (arith, onward, fewer, c.loop-at.invariant.fewer);
    }

pub returns-clause-read : goal.returns-clause-read
returns-clause-read c =
    let away = c.loop-at-test.ensures.away refl in
    rw away.1 (ends _ _ c.loop-at.invariant.so_far away.0)
