use Rattle.std.proofs.Common.{◌≡◌, ◌∙◌, List, [], drop, ap, sym, arith, false}
use Rattle.std.specs.Prelude.{◌||◌, ◌&&◌}
use Rattle.std.specs.List.{list_any}
use Rattle.std.proofs.lemmas.List.{drop_all}
use Rattle.std.proofs.Math.Bool.{or-false}
use Rattle.map_maker.specs.Keys.{has, in_some}
use Rattle.map_maker.specs.Earlier.{is_at}
use Rattle.map_maker.specs.declared.spans.Span.{Span}
use Rattle.map_maker.specs.declared.earlier.Entry.{Entry}
use Rattle.map_maker.proofs.EarlierLaws.{found_next, list_any-nothing}
use Rattle.map_maker.proofs.earlier.push_found.Goals as goal

pub loop-span-preserved : goal.loop-span-preserved
loop-span-preserved c = λ j.
    let zero : Span = record { from = 0; to = 0 } in
    found_next c.args.block.now c.args.spans.now c.loop-span.span-index j zero _ (has c.loop-span.places.items j) (has c.push_places.new.places.items j) c.loop-span-test.true (c.loop-span.invariant j)
    (c.in_ok-push_places.ensures j ∙ ap (λ (es : List Entry). has c.loop-span.places.items j || list_any (is_at j) es) c.run.ensures)

pub returns : goal.returns
returns c = λ j.
    let none : drop c.loop-span.span-index c.args.spans.now ≡ [] = drop_all c.loop-span.span-index c.args.spans.now (omega (arith, c.loop-span-test.false)) in
    let nothing : list_any (λ (e : Entry). in_some (drop c.loop-span.span-index c.args.spans.now) e.key && is_at j e) c.args.block.now ≡ false =
    ap (λ (ss : List Span). list_any (λ (e : Entry). in_some ss e.key && is_at j e) c.args.block.now) none
    ∙ list_any-nothing c.args.block.now (is_at j) in
    sym (c.loop-span.invariant j ∙ ap (λ b. has c.loop-span.places.items j || b) nothing ∙ or-false (has c.loop-span.places.items j))
