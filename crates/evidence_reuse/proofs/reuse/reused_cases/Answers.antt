use Rattle.std.proofs.Common.{length, refl, arith}
use Rattle.std.proofs.lemmas.Option.{slice_get_read}
use Rattle.evidence_reuse.proofs.Cases.{all_reused, one_more}
use Rattle.evidence_reuse.proofs.reuse.reused_cases.Goals as goal

pub reused_case-requires-clause-at : goal.reused_case-requires-clause-at
reused_case-requires-clause-at c =
    slice_get_read c.args.beside.now.compiled.now (length c.args.beside.now.compiled.now) c.loop-place.place _ refl c.loop-place-test.true c.index-compiled-place.is

pub reused_case-requires-clause-graph : goal.reused_case-requires-clause-graph
reused_case-requires-clause-graph c =
    let place = c.loop-place.place in
    let within = c.loop-place-test.true in
    c.requires.graphs place c.index-compiled-place.result c.index-renewed-place.result
    (slice_get_read c.args.beside.now.compiled.now (length c.args.beside.now.compiled.now) place _ refl within c.index-compiled-place.is)
    (slice_get_read c.args.renewed.now (length c.args.renewed.now) place _ refl (omega (arith, within, c.requires.count)) c.index-renewed-place.is)

pub loop-place-preserved : goal.loop-place-preserved
loop-place-preserved c =
    let place = c.loop-place.place in
    let within = c.loop-place-test.true in
    one_more _ _ c.args.beside.now.compiled.now c.args.renewed.now c.loop-place.all place c.loop-place.invariant _ c.index-compiled-place.result c.index-renewed-place.result _
    (slice_get_read c.args.beside.now.compiled.now (length c.args.beside.now.compiled.now) place _ refl within c.index-compiled-place.is)
    (slice_get_read c.args.renewed.now (length c.args.renewed.now) place _ refl (omega (arith, within, c.requires.count)) c.index-renewed-place.is)
    c.in_ok-case.ensures c.in_ok-push.ensures.ok

pub returns : goal.returns
returns c =
    all_reused _ _ c.args.beside.now.compiled.now c.args.renewed.now c.loop-place.all c.loop-place.place c.loop-place.invariant
    (omega (arith, c.loop-place-test.false, c.loop-place.auto.place-end))
