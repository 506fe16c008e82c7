use Rattle.std.proofs.Common.{map, string_bytes, ◌∙◌}
use Rattle.list_law.proofs.Exits.{passed_on}
use Rattle.run_base.proofs.OnlyRead.{held_before, read_twice, stop_before}
use Rattle.run_base.proofs.Readings.{held_more, stopped_at}
use Rattle.run_base.proofs.reading.read_all.Goals as goal

pub returns-in_err-text-clause-read : goal.returns-in_err-text-clause-read
returns-in_err-text-clause-read g c =
    let kept = c.loop-place.invariant.kept in
    let at_name = stop_before _ _ _ _ _ _ kept c.loop-place.invariant.each (g.I.Inputs.faults c.read_named.new.inputs) _ _ c.in_err-text.ensures.read in
    rw (passed_on c.from_residual.result c.from_residual.ensures.1) (
    stopped_at (g.I.Inputs.holds c.args.inputs.now)
    (map string_bytes c.args.words.now) _ _ c.args.places.now c.loop-place.place-index c.loop-place.texts c.loop-place-test.true c.loop-place.invariant.held
    (rw c.word.ensures at at_name)
    )

pub loop-place-preserved : goal.loop-place-preserved
loop-place-preserved g c =
    let kept = c.loop-place.invariant.kept in
    let at_name = held_before _ _ _ _ _ _ kept c.loop-place.invariant.each _ _ c.in_ok-text.ensures.read in
    let added = c.in_ok-push.ensures.ok in
    record {
      held = rw (added, c.from_vec.ensures) (
          held_more (g.I.Inputs.holds c.args.inputs.now)
          (map string_bytes c.args.words.now) c.args.places.now c.loop-place.place-index c.loop-place.texts _ c.loop-place-test.true c.loop-place.invariant.held
          (rw c.word.ensures at at_name)
          );
      calm = c.in_ok-text.ensures.failed ∙ c.loop-place.invariant.calm;
      each = λ n. c.in_ok-text.ensures.calm n ∙ c.loop-place.invariant.each n;
      kept = read_twice _ _ _ _ _ _ _ _ _ kept c.in_ok-text.ensures.kept;
    }
