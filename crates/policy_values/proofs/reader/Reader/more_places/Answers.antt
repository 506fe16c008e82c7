use Rattle.std.proofs.Common.{◌≡◌, ◌+◌, refl, ap, arith}
use Rattle.list_law.proofs.Exits.{passed_on}
use Rattle.net_base.proofs.StepLemmas.{ok_same}
use Rattle.policy_values.specs.CallReaders.{PlacesValue, plain_places, with_place}
use Rattle.policy_values.proofs.Chains.{goes_on, stops, ends}
use Rattle.policy_values.proofs.ReadsOver.{read_same}
use Rattle.policy_values.proofs.reader.Reader.more_places.Goals as goal

pub returns-in_err-set-clause-read : goal.returns-in_err-set-clause-read
returns-in_err-set-clause-read c =
    rw (passed_on c.from_residual.result c.from_residual.ensures.1) (λ memory. stops _ _ _ c.loop-at.invariant.so_far (c.loop-at-test.ensures.here refl) (rw (c.in_err-set.ensures.read memory) refl))

pub loop-at-preserved : goal.loop-at-preserved
loop-at-preserved c =
    let onward = c.loop-at-test.ensures.onward refl in
    let fewer = c.one.ensures.fewer in
    let made : with_place (plain_places c.loop-at.places) c.in_ok-set.set ≡ plain_places c.take.new.self = ok_same _ _ c.in_ok-take.ensures in
    let count : c.loop-at.places.count + 1 ≡ c.take.new.self.count = ap (λ (p : PlacesValue). p.count) made in record {
      so_far = goes_on _ _ _ c.loop-at.invariant.so_far (c.loop-at-test.ensures.here refl) (rw c.in_ok-set.ensures.read (read_same _ _ _ made)) (omega (arith, onward, fewer));
      stands = c.one.ensures.stands;
      fewer = omega (arith, onward, fewer, c.loop-at.invariant.fewer);
      room = omega (arith, onward, fewer, count, c.loop-at.invariant.room);
    }

pub returns-clause-read : goal.returns-clause-read
returns-clause-read c =
    let away = c.loop-at-test.ensures.away refl in
    rw away.1 (ends _ _ c.loop-at.invariant.so_far away.0)
