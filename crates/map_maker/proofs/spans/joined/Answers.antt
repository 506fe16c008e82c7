use Rattle.std.proofs.Common.{◌+◌, ◌∙◌, ap, get_or, arith, sym, subst}
use Rattle.std.specs.Prelude.{◌||◌}
use Rattle.map_maker.specs.Keys.{in_span, AreJoined}
use Rattle.map_maker.specs.declared.spans.Span.{Span}
use Rattle.map_maker.proofs.SpanSets.{in_some-take_more, AreJoined-later}
use Rattle.std.proofs.lemmas.List.{get_or_default}
use Rattle.map_maker.proofs.spans.joined.Goals as goal

pub loop-span-preserved : goal.loop-span-preserved
loop-span-preserved c =
    let i = c.loop-span.span-index in
    let spans = c.args.spans.now in
    let zero : Span = record { from = 0; to = 0 } in
    record {
      apart = c.in_ok-reached.ensures.joined.apart;
      same =
          λ k. c.in_ok-reached.ensures.added k
          ∙ ap (λ b. b || in_span (get_or spans i (record { from = 0; to = 0 })) k) (c.loop-span.invariant.same k)
          ∙ sym (in_some-take_more spans i (record { from = 0; to = 0 }) k c.loop-span-test.true);
      joined =
          λ d lt. AreJoined-later c.join.new.apart.items c.in_ok-reached.reached (get_or spans i d).from (get_or spans (i + 1) d).from
          (c.requires i (i + 1) d (omega arith) lt) (subst (λ (x : Span). AreJoined c.join.new.apart.items c.in_ok-reached.reached x.from)
          (get_or_default spans i zero d c.loop-span-test.true) c.in_ok-reached.ensures.joined);
    }
