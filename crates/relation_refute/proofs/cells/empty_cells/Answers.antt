use Rattle.std.proofs.Common.{rules, ◌≡◌, ◌+◌, ◌<◌, ◌≤◌, ℕ, eqb, get_or, length, arith, ap, ◌∙◌}
use Rattle.std.proofs.lemmas.List.{length_push}
use Rattle.relation_law.proofs.Tests.{count_most}
use Rattle.graph_base.specs.Graphs.{PlainGraph}
use Rattle.graph_base.specs.Runs.{place_of}
use Rattle.relation_refute.specs.declared.cells.Cells.{Cells}
use Rattle.relation_refute.specs.Cells.{room_at}
use Rattle.relation_refute.proofs.Celling.{blocks_more, cell_within, one_cell, rooms_more}
use Rattle.relation_refute.proofs.cells.empty_cells.Goals as goal

pub loop-node-preserved : goal.loop-node-preserved
loop-node-preserved c =
    let g : PlainGraph = c.args.graph.now in
    let inv = c.loop-node.invariant in
    let node : ℕ = c.loop-node.node in
    let at : ℕ = c.number-at.result in
    let is : at ≡ place_of g node = c.number-at.ensures ∙ c.location.ensures in
    let lt : node < length g.nodes = omega (arith, c.loop-node-test.true, ap length c.nodes.ensures.nodes) in
    let inside = c.requires.places node lt in
    let room : get_or c.args.counts.now at 0 ≡ room_at g (place_of g node) = c.requires.counts at (omega (arith, is, inside)) ∙ ap (room_at g) is in
    let most = count_most (length g.nodes) (λ k. eqb (place_of g k) (place_of g node)) in
    let pushed = c.in_ok-push.ensures.items in
    let step = ap (λ z. c.loop-node.end + z) room in
    record {
      len = ap length pushed ∙ length_push c.loop-node.bases.items c.loop-node.end ∙ ap (λ z. z + 1) inv.len;
      most = omega (arith, inv.most, room, most, c.nodes.ensures.rules.count);
      rooms =
          rooms_more (λ n. room_at g (place_of g n)) c.loop-node.bases.items c.push.new.self.items node c.loop-node.end
          (c.loop-node.end + get_or c.args.counts.now at 0) inv.len pushed step inv.rooms;
      blocks = blocks_more (λ n. room_at g (place_of g n)) c.loop-node.bases.items c.push.new.self.items node c.loop-node.end inv.len pushed inv.rooms inv.blocks;
    }

pub returns-clause-cells : goal.returns-clause-cells
returns-clause-cells c =
    let g : PlainGraph = c.args.graph.now in
    let inv = c.loop-node.invariant in
    let made : Cells = record { spots = c.args.spots; bases = c.loop-node.bases; rounds = c.in_ok-rounds.rounds } in
    let all : c.loop-node.node ≡ length g.nodes = omega (arith, c.loop-node-test.false, c.loop-node.auto.node-end, ap length c.nodes.ensures.nodes) in
    let rooms : (n : ℕ) → n < length g.nodes → get_or c.loop-node.bases.items n 0 + room_at g (place_of g n) ≤ c.loop-node.end = λ n lt. inv.rooms n (omega (arith, lt, all)) in
    let blocks : (a b : ℕ) → a < b → b < length g.nodes
    → get_or c.loop-node.bases.items a 0 + room_at g (place_of g a) ≤ get_or c.loop-node.bases.items b 0 =
    λ a b less lt. inv.blocks a b less (omega (arith, lt, all)) in
    let len : length c.in_ok-rounds.rounds.items ≡ c.loop-node.end = search rules in
    record {
      spots = c.requires.len;
      bases = inv.len ∙ all;
      within = λ m n p. (let inside = cell_within g made c.loop-node.end c.requires.spots rooms blocks m n p in omega (arith, inside, len));
      apart = one_cell g made c.loop-node.end c.requires.spots rooms blocks;
    }
