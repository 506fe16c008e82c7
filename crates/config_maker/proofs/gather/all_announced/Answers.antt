use Rattle.std.proofs.Common.{length, refl, rules}
use Rattle.std.proofs.lemmas.Option.{slice_get_read}
use Rattle.config_maker.proofs.Gathering.{announced-step, announced-end}
use Rattle.config_maker.proofs.gather.all_announced.Goals as goal

pub loop-place-preserved : goal.loop-place-preserved
loop-place-preserved c =
    let here = slice_get_read c.args.evidence.now (length c.args.evidence.now) c.loop-place.place c.index-evidence-place.result refl c.loop-place-test.true c.index-evidence-place.is in
    announced-step c.args.evidence.now c.loop-place.place c.index-evidence-place.result here c.loop-place.all.items c.add_announced.new.all.items c.in_ok-add_announced.ensures c.loop-place.invariant

pub returns : goal.returns
returns c = announced-end c.args.evidence.now c.loop-place.place c.loop-place.all.items (search rules) c.loop-place.invariant
