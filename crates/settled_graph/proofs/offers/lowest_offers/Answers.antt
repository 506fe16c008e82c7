use Rattle.std.proofs.Common.{rules, ◌≡◌, ◌<◌, [], length, None, replicate, take, take_all, get_or, ◌∙◌, subst, refl, arith, List, ℕ}
use Rattle.std.proofs.lemmas.Bool.{false≢true}
use Rattle.std.proofs.lemmas.List.{get_or_read}
use Rattle.reach_prune.proofs.Visiting.{listed_below}
use Rattle.settled_graph.specs.Offers.{AreLowest}
use Rattle.settled_graph.proofs.Lowest.{along, along_next, lowest_first, of_nodes_first}
use Rattle.settled_graph.proofs.offers.lowest_offers.Goals as goal

pub loop-node-init : goal.loop-node-init
loop-node-init c =
    let g = c.args.graph.now in
    let offers = c.in_ok-offers.offers.items in
    let empty : offers ≡ replicate 768 None = c.in_ok-offers.ensures.items_if_clones_equal (λ y h. search rules) in
    let lowest = lowest_first c.args.net.now g c.args.numbers.now c.args.wanted.now (along [] c.args.lists.now) 768 offers refl empty (λ f t h. false≢true h) in
    record { size = lowest.size; nodes = of_nodes_first g 768 offers empty; lowest = lowest }

pub visit_each-requires-clause-to : goal.visit_each-requires-clause-to
visit_each-requires-clause-to c = λ k d less.
    let lists = c.args.lists.now in
    let node = get_or c.args.front.now c.loop-node.node-index 0 in
    let known : node < length lists = omega (arith, c.requires.front c.loop-node.node-index 0 c.loop-node-test.true, c.requires.count) in
    let read = get_or_read lists node c.index-lists-node.result known c.index-lists-node.is [] in
    let below = listed_below lists node c.as_slice.result.now k d c.requires.lists (c.as_slice.ensures ∙ read) less in
    omega (arith, below, c.requires.count)

pub loop-node-preserved : goal.loop-node-preserved
loop-node-preserved c = record {
  size = c.visit_each.ensures.size;
  nodes = c.visit_each.ensures.nodes;
  lowest =
      let lists = c.args.lists.now in
      let front = c.args.front.now in
      let i = c.loop-node.node-index in
      let node = get_or front i 0 in
      let known : node < length lists = omega (arith, c.requires.front i 0 c.loop-node-test.true, c.requires.count) in
      let read = get_or_read lists node c.index-lists-node.result known c.index-lists-node.is [] in
      along_next c.args.net.now c.args.graph.now c.args.numbers.now c.args.wanted.now front lists node i 0 c.as_slice.result.now
      c.visit_each.new.offers.items c.loop-node-test.true refl (c.as_slice.ensures ∙ read)
      (c.visit_each.ensures.lowest (along (take i front) lists) c.loop-node.invariant.lowest);
}

pub returns : goal.returns
returns c = subst (λ (xs : List ℕ). AreLowest c.args.net.now c.args.graph.now c.args.numbers.now c.args.wanted.now (along xs c.args.lists.now) c.loop-node.offers.items)
    (take_all c.loop-node.node-index c.args.front.now c.loop-node-test.false) c.loop-node.invariant.lowest
