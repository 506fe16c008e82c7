use Rattle.std.proofs.Common.{◌≡◌, ◌+◌, ◌<◌, ℕ, eqb, get_or, length, length-set, arith, refl, ap, ◌∙◌}
use Rattle.graph_base.specs.Graphs.{PlainGraph}
use Rattle.graph_base.specs.Runs.{place_of}
use Rattle.std.proofs.lemmas.List.{length_push}
use Rattle.relation_law.specs.Numbers.{count_below}
use Rattle.relation_law.proofs.Tests.{count_most}
use Rattle.relation_refute.specs.Cells.{spot_of}
use Rattle.relation_refute.proofs.Celling.{counts_more, spots_more}
use Rattle.relation_refute.proofs.cells.numbered_spots.Goals as goal

pub loop-node-init : goal.loop-node-init
loop-node-init c = record {
  len = ap length c.new-spots.ensures.items;
  places = refl;
  spots = λ m lt. absurd (omega (arith, lt));
  counts = λ k lk. c.requires.none k;
}

pub overflow_add-counts : goal.overflow_add-counts
overflow_add-counts c =
    let g : PlainGraph = c.args.graph.now in
    let inv = c.loop-node.invariant in
    let node : ℕ = c.loop-node.node in
    let at : ℕ = c.number-at.result in
    let is : at ≡ place_of g node = c.number-at.ensures ∙ c.location.ensures in
    let lt : node < length g.nodes = omega (arith, c.loop-node-test.true, ap length c.nodes.ensures.nodes) in
    let inside = c.requires.counts node lt in
    let count = inv.counts at (omega (arith, is, inside, inv.places)) in
    let most = count_most node (λ n. eqb (place_of g n) at) in
    omega (arith, count, most, lt, c.nodes.ensures.rules.count)

pub loop-node-preserved : goal.loop-node-preserved
loop-node-preserved c =
    let g : PlainGraph = c.args.graph.now in
    let inv = c.loop-node.invariant in
    let node : ℕ = c.loop-node.node in
    let at : ℕ = c.number-at.result in
    let counts = c.loop-node.counts in
    let is : at ≡ place_of g node = c.number-at.ensures ∙ c.location.ensures in
    let lt : node < length g.nodes = omega (arith, c.loop-node-test.true, ap length c.nodes.ensures.nodes) in
    let inside = c.requires.counts node lt in
    let inner : at < length counts = omega (arith, is, inside, inv.places) in
    let here : get_or counts at 0 ≡ spot_of g node = inv.counts at inner ∙ ap (λ l. count_below node (λ k. eqb (place_of g k) l)) is in
    let pushed = c.in_ok-push.ensures.items in
    let kept = length-set counts at (get_or counts at 0 + 1) in
    record {
      len = ap length pushed ∙ length_push c.loop-node.spots.items (get_or counts at 0) ∙ ap (λ z. z + 1) inv.len;
      places = kept ∙ inv.places;
      spots = spots_more (place_of g) c.loop-node.spots.items c.push.new.self.items node (get_or counts at 0) inv.len pushed here inv.spots;
      counts = λ k lk. counts_more (place_of g) counts node at (get_or counts at 0) is inner refl inv.counts k (omega (arith, lk, kept));
    }

pub returns-clause-len : goal.returns-clause-len
returns-clause-len c = omega (arith, c.loop-node.invariant.len, c.loop-node-test.false, c.loop-node.auto.node-end, ap length c.nodes.ensures.nodes)

pub returns-clause-spots : goal.returns-clause-spots
returns-clause-spots c = λ m lt. c.loop-node.invariant.spots m (omega (arith, lt, c.loop-node-test.false, ap length c.nodes.ensures.nodes))

pub returns-clause-counts : goal.returns-clause-counts
returns-clause-counts c = λ l lk.
    let end : c.loop-node.node ≡ length c.args.graph.now.nodes = omega (arith, c.loop-node-test.false, c.loop-node.auto.node-end, ap length c.nodes.ensures.nodes) in
    c.loop-node.invariant.counts l lk ∙ ap (λ z. count_below z (λ n. eqb (place_of c.args.graph.now n) l)) end
