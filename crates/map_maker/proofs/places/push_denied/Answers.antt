use Rattle.std.proofs.Common.{◌≡◌, Some, get_or, refl, length, ◌<◌}
use Rattle.std.specs.Prelude.{slice_get}
use Rattle.std.proofs.lemmas.Option.{slice_get_read}
use Rattle.map_maker.proofs.SpanSets.{each_at}
use Rattle.map_maker.proofs.PlaceLaws.{line_more}
use Rattle.map_maker.proofs.places.push_denied.Goals as goal

pub loop-place-preserved : goal.loop-place-preserved
loop-place-preserved c =
    let i = c.loop-place.place-index in
    let there : slice_get c.args.patterns.now (get_or c.args.places.now i 0) ≡ Some c.index-patterns-place.result =
    slice_get_read c.args.patterns.now (length c.args.patterns.now) (get_or c.args.places.now i 0) c.index-patterns-place.result refl
    (each_at (λ j. j < length c.args.patterns.now) c.args.places.now i 0 c.requires c.loop-place-test.true) c.index-patterns-place.is in
    line_more c.args.patterns.now c.args.places.now i c.index-patterns-place.result c.args.lines.now c.loop-place.lines c.push.new.self
    c.loop-place-test.true there c.loop-place.invariant c.in_ok-push.ensures.ok
