use Rattle.std.proofs.Common.{◌≡◌, ◌≤◌, ◌∙◌, ap, take, get_or, arith}
use Rattle.std.specs.Prelude.{◌&&◌, ◌||◌}
use Rattle.std.proofs.lemmas.List.{take_all}
use Rattle.route_maps.specs.Overlaps.{overlap}
use Rattle.map_maker.specs.Keys.{key, in_some, has}
use Rattle.map_maker.proofs.SpanSets.{spans_more, has-take_more, each_at}
use Rattle.map_maker.proofs.spans.push_spans.Goals as goal

pub loop-len-preserved : goal.loop-len-preserved
loop-len-preserved c = λ q lq.
    let low : get_or c.args.lengths.now c.loop-len.len-index 0 ≤ 32 = each_at (λ l. l ≤ 32) c.args.lengths.now c.loop-len.len-index 0 c.requires c.loop-len-test.true in
    spans_more c.args.pattern q c.args.lengths.now c.loop-len.len-index (get_or c.args.lengths.now c.loop-len.len-index 0) c.args.spans.now.items
    c.loop-len.spans.items c.push_span.new.spans.items c.span_of.result
    c.span_of.ensures.rules lq low (has-take_more c.args.lengths.now c.loop-len.len-index q.base.len c.loop-len-test.true) (c.loop-len.invariant q lq)
    c.span_of.ensures.span (c.in_ok-push_span.ensures (key q))

pub returns : goal.returns
returns c = λ q lq known.
    let all : take c.loop-len.len-index c.args.lengths.now ≡ c.args.lengths.now = take_all c.loop-len.len-index c.args.lengths.now (omega (arith, c.loop-len-test.false)) in
    c.loop-len.invariant q lq ∙ ap (λ b. in_some c.args.spans.now.items (key q) || (b && overlap q c.args.pattern)) (ap (λ ls. has ls q.base.len) all ∙ known)
