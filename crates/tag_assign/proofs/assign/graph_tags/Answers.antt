use Rattle.std.proofs.Common.{◌≡◌, List, ◌++◌, ◌∷◌, [], ◌+◌, ◌∙◌, length, take, sym, ap, subst, rules}
use Rattle.std.proofs.lemmas.List.{take_more, take_all}
use Rattle.graph_base.specs.declared.graph.Node.{Node}
use Rattle.graph_base.specs.Graphs.{PlainGraph}
use Rattle.tag_assign.specs.Counts.{HasCounts, HaveRoom}
use Rattle.tag_assign.specs.Tagging.{tags_after, tags_of, all_nodes}
use Rattle.tag_assign.proofs.Tallies.{nodes-snoc, graph_tags-step, room-graphs}
use Rattle.tag_assign.proofs.assign.graph_tags.Goals as goal

pub node_tags-requires-clause-room : goal.node_tags-requires-clause-room
node_tags-requires-clause-room c =
    subst (λ (ns : List Node). HaveRoom c.loop-graph.counts (length ns)) (sym c.nodes.ensures.nodes)
    (room-graphs c.loop-graph.counts c.args.graphs.now c.loop-graph.graph-index c.graph-item.result c.loop-graph-test.true c.graph-item.is c.loop-graph.invariant.counts c.requires.few)

pub loop-graph-preserved : goal.loop-graph-preserved
loop-graph-preserved c =
    let graphs = take c.loop-graph.graph-index c.args.graphs.now in
    let more = take (c.loop-graph.graph-index + 1) c.args.graphs.now in
    let is_more : more ≡ graphs ++ c.graph-item.result ∷ [] = take_more c.args.graphs.now c.loop-graph.graph-index c.graph-item.result
    c.loop-graph-test.true ∙ ap (λ (g : PlainGraph). graphs ++ g ∷ []) (sym c.graph-item.is) in
    let nodes_are : c.nodes.result.now ≡ c.graph-item.result.nodes = c.nodes.ensures.nodes in
    let nodes_more : all_nodes more ≡ all_nodes graphs ++ c.nodes.result.now = nodes-snoc graphs more c.graph-item.result is_more ∙ ap (λ ns. all_nodes graphs ++ ns) (sym nodes_are) in
    record {
      counters = search rules;
      counts = subst (HasCounts c.node_tags.new.counts) (sym nodes_more) (c.in_ok-node_tags.ensures.counts (all_nodes graphs) c.loop-graph.invariant.counts);
      tags =
          c.in_ok-push.ensures.ok
          ∙ graph_tags-step c.args.net.now graphs more c.graph-item.result c.loop-graph.tags c.in_ok-node_tags.field-0 is_more c.loop-graph.invariant.tags
          (c.in_ok-node_tags.ensures.tags (all_nodes graphs) c.loop-graph.invariant.counts ∙ ap (tags_after c.args.net.now (all_nodes graphs)) nodes_are);
    }

pub returns : goal.returns
returns c = c.loop-graph.invariant.tags ∙ ap (tags_of c.args.net.now) (take_all c.loop-graph.graph-index c.args.graphs.now c.loop-graph-test.false)
