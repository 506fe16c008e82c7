use Rattle.std.proofs.Common.{◌≡◌, ◌+◌, ◌∙◌, List, [], length, min, drop, ap, sym, arith, rules}
use Rattle.std.specs.Prelude.{count_by}
use Rattle.std.proofs.lemmas.List.{drop_all}
use Rattle.map_maker.specs.Keys.{in_some}
use Rattle.map_maker.specs.Earlier.{top}
use Rattle.map_maker.specs.declared.spans.Span.{Span}
use Rattle.map_maker.specs.declared.earlier.Entry.{Entry}
use Rattle.map_maker.proofs.EarlierLaws.{counted_next, kept_sum, AreApart-next, count_by-nothing}
use Rattle.map_maker.proofs.earlier.count_in.Goals as goal

pub loop-span-preserved : goal.loop-span-preserved
loop-span-preserved c =
    let zero : Span = record { from = 0; to = 0 } in
    let i = c.loop-span.span-index in
    record {
      few = search rules;
      rest = kept_sum _ c.loop-span.total (length c.run.result.now) c.saturating_add-total.result (count_by (λ (e : Entry). in_some (drop (i + 1) c.args.spans.now) e.key) c.args.block.now)
          (c.loop-span.invariant.rest
          ∙ ap (λ n. min (c.loop-span.total + n) top) (counted_next c.args.block.now c.args.spans.now i zero c.loop-span-test.true
          c.loop-span.invariant.apart
          ∙ ap (λ n. n + count_by (λ (e : Entry). in_some (drop (i + 1) c.args.spans.now) e.key) c.args.block.now)
          (sym (ap length c.run.ensures))))
          (search rules);
      apart = (AreApart-next c.args.spans.now i zero c.loop-span-test.true c.loop-span.invariant.apart).1;
    }

pub returns : goal.returns
returns c =
    let none : drop c.loop-span.span-index c.args.spans.now ≡ [] = drop_all c.loop-span.span-index c.args.spans.now (omega (arith, c.loop-span-test.false)) in
    let nothing : count_by (λ (e : Entry). in_some (drop c.loop-span.span-index c.args.spans.now) e.key) c.args.block.now ≡ 0 =
    ap (λ (ss : List Span). count_by (λ (e : Entry). in_some ss e.key) c.args.block.now) none ∙ count_by-nothing c.args.block.now in
    omega (arith, c.loop-span.invariant.rest, nothing, c.loop-span.invariant.few)
