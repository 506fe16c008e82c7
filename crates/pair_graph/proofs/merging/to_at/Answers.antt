use Rattle.std.proofs.Common.{◌≡◌, ◌+◌, Some, get_or, sym, ap, ◌∙◌, arith}
use Rattle.std.specs.Prelude.{slice_get}
use Rattle.std.proofs.lemmas.Bool.{ltb-false, ltb-true}
use Rattle.std.proofs.lemmas.Option.{get_or_from_slice_get, slice_get-get_or}
use Rattle.pair_graph.specs.Ways.{place_of}
use Rattle.pair_graph.proofs.Turns.{cut_over, taken_here, taken_not}
use Rattle.pair_graph.proofs.merging.to_at.Goals as goal

pub returns-then-way-place : goal.returns-then-way-place
returns-then-way-place c =
    let look = c.in-Some.ensures.lookup in
    let way = c.in-Some.way.now in
    let at : slice_get c.args.ways.now c.args.index ≡ Some way = slice_get-get_or c.args.ways.now c.args.index way (ltb-true _ _ (sym look.0)) ∙ ap Some (sym look.1) in
    sym (taken_here c.args.ways.now c.args.place c.args.index way c.requires.cut at c.if-way-place.true)

pub returns-else-way-place : goal.returns-else-way-place
returns-else-way-place c =
    let ways = c.args.ways.now in
    let look = c.in-Some.ensures.lookup in
    let way = c.in-Some.way.now in
    let at : slice_get ways c.args.index ≡ Some way = slice_get-get_or ways c.args.index way (ltb-true _ _ (sym look.0)) ∙ ap Some (sym look.1) in
    sym (taken_not ways c.args.place (c.args.place + 1) c.args.index c.args.place c.requires.cut
    (cut_over place_of ways c.args.place (c.args.place + 1) c.args.index c.requires.order c.requires.cut (omega arith) (λ d lt.
    let item : place_of (get_or ways c.args.index d) ≡ way.place = ap place_of (get_or_from_slice_get ways c.args.index way d at) in
    let low = c.requires.cut.behind c.args.index d (omega arith) lt in
    omega (arith, item, low, c.if-way-place.false)))
    (omega arith) (omega arith))

pub returns-in-None : goal.returns-in-None
returns-in-None c =
    let ways = c.args.ways.now in
    let look = c.in-None.ensures.lookup in
    sym (taken_not ways c.args.place (c.args.place + 1) c.args.index c.args.place c.requires.cut
    (cut_over place_of ways c.args.place (c.args.place + 1) c.args.index c.requires.order c.requires.cut (omega arith)
    (λ d lt. absurd (omega (arith, lt, ltb-false _ _ (sym look.0)))))
    (omega arith) (omega arith))
