use Rattle.std.proofs.Common.{◌≡◌, ◌<◌, ◌∙◌, List, ap, arith, get_or, length, refl, subst, sym, take}
use Rattle.pair_graph.specs.declared.pair.NodePair.{NodePair}
use Rattle.pair_rows.specs.declared.values.Met.{Met}
use Rattle.pair_rows.specs.Meetings.{node_mets}
use Rattle.place_rows.specs.Noted.{AreNotedAt}
use Rattle.place_rows.proofs.Mets.{nodes_next}
use Rattle.place_rows.proofs.table.note_nodes.Goals as goal

pub loop-node-preserved : goal.loop-node-preserved
loop-node-preserved c =
    let g = c.args.first.now in
    let h = c.args.second.now in
    let pairs = c.args.both.now.pairs in
    let n = c.loop-node.node in
    let x = c.index-pairs-node.result in
    let within : n < length pairs = omega (arith, c.loop-node-test.true, c.requires.pairs, ap length c.nodes-node-end.ensures.nodes) in
    let read : x ≡ get_or pairs n x = c.index-pairs-node.is ∙ ap (λ (xs : List NodePair). get_or xs n x) c.as_slice-pairs.ensures in
    record {
      size = c.in_ok-note_in.ensures.size ∙ c.loop-node.invariant.size;
      noted =
          subst (λ (ms : List Met). AreNotedAt ms c.note_in.new.routers.items) (sym (nodes_next g h pairs n x _ c.row_of.result n within read refl c.row_of.ensures refl))
          (c.in_ok-note_in.ensures.noted (node_mets g h (take n pairs) 0) c.loop-node.invariant.noted);
    }
