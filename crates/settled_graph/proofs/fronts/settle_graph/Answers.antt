use Rattle.std.proofs.Common.{◌≡◌, [], List, get_or, eqb, eq-eqb, eqb-true, vec_len, sym, ap, ◌∙◌, subst, refl, arith, ℕ}
use Rattle.std.proofs.lemmas.Bool.{eqb-false}
use Rattle.std.proofs.lemmas.List.{nil_from_length}
use Rattle.std.proofs.lemmas.List.Folds.{list_any_at}
use Rattle.reach_prune.specs.Searches.{is_among}
use Rattle.graph_base.proofs.StartsAndSteps.{start_node}
use Rattle.settled_graph.specs.Rounds.{AreFit}
use Rattle.settled_graph.proofs.Stages.{IsStage, all_fit, stage_end, stage_first, stage_next}
use Rattle.settled_graph.proofs.fronts.settle_graph.Goals as goal

pub fronts-init : goal.fronts-init
fronts-init c =
    let g = c.args.graph.now in
    subst
    (λ (xs : List ℕ). IsStage c.args.net.now g c.args.numbers.now c.args.choosers.now c.in_ok-routes.routes.items c.in_ok-wanted.wanted.items xs)
    (sym (c.in_ok-front.ensures.items ∙ c.starts.ensures.starts))
    (stage_first c.args.net.now g c.args.numbers.now c.args.choosers.now c.in_ok-routes.routes.items c.in_ok-wanted.wanted.items
    (λ s h. start_node g s c.starts.ensures.rules h) c.requires.starts c.in_ok-wanted.ensures c.in_ok-routes.ensures)

pub lowest_offers-requires-clause-front : goal.lowest_offers-requires-clause-front
lowest_offers-requires-clause-front c = λ k d less.
    let front = c.deref-in-fronts-2.result.now in
    let node = get_or front k d in
    (c.fronts.invariant.nodes node (ap (λ xs. is_among xs node) (sym c.deref-in-fronts-2.ensures.value) ∙ list_any_at (λ x. eqb x node) front k d less (eq-eqb node node refl))).0

pub settle_offers-requires-clause-fit : goal.settle_offers-requires-clause-fit
settle_offers-requires-clause-fit c =
    let lowest = rw (c.deref.ensures.value, c.deref-in-fronts.ensures.value, c.deref-in-fronts-2.ensures.value) at c.in_ok-offers.ensures in
    subst (AreFit c.args.graph.now c.fronts.wanted.items) (sym c.deref-in-fronts-3.ensures.value)
    (all_fit c.args.net.now c.args.graph.now c.args.numbers.now c.args.choosers.now c.in_ok-lists.lists.items c.in_ok-lists.ensures.lists c.in_ok-lists.ensures.size c.in_ok-lists.ensures.steps
    c.fronts.routes.items c.fronts.wanted.items c.fronts.front.items c.fronts.invariant c.in_ok-offers.offers.items lowest)

pub fronts-smaller : goal.fronts-smaller
fronts-smaller c =
    let some = eqb-false (vec_len c.fronts.front) 0 (sym c.is_empty.ensures ∙ c.fronts-test.true) in
    omega (arith, some, c.fronts.front.ok.0, c.in_ok-front-2.ensures.round.fewer)

pub fronts-preserved : goal.fronts-preserved
fronts-preserved c =
    let lowest = rw (c.deref.ensures.value, c.deref-in-fronts.ensures.value, c.deref-in-fronts-2.ensures.value) at c.in_ok-offers.ensures in
    let round = rw c.deref-in-fronts-3.ensures.value at c.in_ok-front-2.ensures.round in
    stage_next c.args.net.now c.args.graph.now c.args.numbers.now c.args.choosers.now c.in_ok-lists.lists.items c.in_ok-lists.ensures.lists c.in_ok-lists.ensures.size c.in_ok-lists.ensures.steps
    c.fronts.routes.items c.fronts.wanted.items c.fronts.front.items c.fronts.invariant c.in_ok-offers.offers.items lowest
    c.settle_offers.new.routes.items c.settle_offers.new.wanted.items c.in_ok-front-2.front.items c.in_ok-front-2.ensures.routes c.in_ok-front-2.ensures.wanted round

pub returns-clause-settled : goal.returns-clause-settled
returns-clause-settled c = λ w ground.
    let empty = eqb-true (vec_len c.fronts.front) 0 (sym c.is_empty.ensures ∙ c.fronts-test.false) in
    let none : c.fronts.front.items ≡ [] = nil_from_length c.fronts.front.items (omega (arith, empty, c.fronts.front.ok.0)) in
    stage_end c.args.net.now c.args.graph.now c.args.numbers.now c.args.choosers.now c.fronts.routes.items c.fronts.wanted.items c.fronts.front.items c.fronts.invariant none w ground
