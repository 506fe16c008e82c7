use Rattle.std.proofs.Common.{◌≡◌, ◌++◌, ◌∷◌, [], ◌+◌, ◌-◌, ◌∙◌, length, take, sym, ap, arith, rules, subst}
use Rattle.std.proofs.lemmas.List.{take_more}
use Rattle.graph_base.specs.declared.graph.Node.{Node}
use Rattle.tag_assign.specs.Counts.{HaveRoom}
use Rattle.tag_assign.proofs.Tallies.{room-step, counts-step, tags-step}
use Rattle.tag_assign.proofs.assign.node_tags.Goals as goal

pub next_tag-requires-clause-room : goal.next_tag-requires-clause-room
next_tag-requires-clause-room c = λ r within. omega (arith, c.loop-node.invariant.room r within)

pub loop-node-preserved : goal.loop-node-preserved
loop-node-preserved c =
    let nodes = take c.loop-node.node-index c.args.nodes.now in
    let more = take (c.loop-node.node-index + 1) c.args.nodes.now in
    let node = c.node-item.result in
    let is_more : more ≡ nodes ++ node ∷ [] = take_more c.args.nodes.now c.loop-node.node-index node c.loop-node-test.true ∙ ap (λ (n : Node). nodes ++ n ∷ []) (sym c.node-item.is) in
    let left : length c.args.nodes.now - c.loop-node.node-index ≡ length c.args.nodes.now - (c.loop-node.node-index + 1) + 1 = omega (arith, c.loop-node-test.true) in
    let room = subst (HaveRoom c.loop-node.counts) left c.loop-node.invariant.room in
    let same = c.loop-node.invariant.counters in
    record {
      counters = search rules;
      room = room-step c.args.net.now c.loop-node.counts c.next_tag.new.counts node same c.next_tag.ensures.counts (length c.args.nodes.now - (c.loop-node.node-index + 1)) room;
      counts =
          λ before has. counts-step c.args.net.now c.loop-node.counts c.next_tag.new.counts node same c.next_tag.ensures.counts before nodes more
          is_more (c.loop-node.invariant.counts before has);
      tags = λ before has.
          c.in_ok-push.ensures.ok
          ∙ tags-step c.args.net.now c.loop-node.counts c.next_tag.new.counts node same c.next_tag.ensures.counts before nodes more is_more
          (c.loop-node.invariant.counts before has) c.loop-node.tags c.next_tag.result
          (c.loop-node.invariant.tags before has) c.next_tag.ensures.tag;
    }
