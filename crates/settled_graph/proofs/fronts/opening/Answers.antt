use Rattle.std.proofs.Common.{◌∷◌, [], length, get_or, sym, ap, ◌∙◌, refl, arith}
use Rattle.graph_base.proofs.StartsAndSteps.{start_node}
use Rattle.settled_graph.proofs.Opening.{opening_all, opening_first, opening_taken, start_among}
use Rattle.settled_graph.proofs.Tables.{place_low}
use Rattle.settled_graph.proofs.fronts.opening.Goals as goal

pub loop-start-init : goal.loop-start-init
loop-start-init c = opening_first c.args.graph.now 768 c.in_ok-routes.routes.items refl c.in_ok-routes.ensures

pub index_mut-requires : goal.index_mut-requires
index_mut-requires c =
    let g = c.args.graph.now in
    let starts = c.starts-start-items in
    let start = get_or starts.result.now c.loop-start.start-index 0 in
    let known = start_node g start starts.ensures.rules (start_among g starts.result.now c.loop-start.start-index start starts.ensures.starts c.loop-start-test.true refl) in
    let low = place_low g start c.requires known in
    omega (arith, c.number.ensures, c.location-at.ensures, low, c.loop-start.invariant.size, c.loop-start.routes.ok.0)

pub loop-start-preserved : goal.loop-start-preserved
loop-start-preserved c =
    let starts = c.starts-start-items in
    opening_taken c.args.graph.now c.loop-start.start-index (get_or starts.result.now c.loop-start.start-index 0) c.number.result c.in_ok-path_from.field-0 starts.result.now c.loop-start.routes.items
    starts.ensures.rules c.requires starts.ensures.starts c.loop-start-test.true refl (c.number.ensures ∙ c.location-at.ensures)
    (c.in_ok-path_from.ensures ∙ ap (λ l. l ∷ []) (sym c.number.ensures)) c.loop-start.invariant

pub returns : goal.returns
returns c =
    opening_all c.args.graph.now c.loop-start.start-index c.loop-start.routes.items
    (omega (arith, c.loop-start-test.false, ap length c.starts-start-items.ensures.starts)) c.loop-start.invariant
