use Rattle.std.proofs.Common.{◌++◌, ◌∷◌, [], map, take, sym, ap, ◌∙◌}
use Rattle.list_law.proofs.Changed.{map_so_far}
use Rattle.graph_base.specs.declared.graph.Node.{Node}
use Rattle.node_quotient.proofs.first.places.Goals as goal

pub loop-node-preserved : goal.loop-node-preserved
loop-node-preserved c =
    let nodes = c.args.nodes.now in
    let i = c.loop-node.node-index in
    c.in_ok-push.ensures.items ∙ ap (λ l. l ++ c.from.result ∷ []) c.loop-node.invariant
    ∙ ap (λ place. map (λ (n : Node). n.loc) (take i nodes) ++ place ∷ []) (c.from.ensures ∙ c.number.ensures)
    ∙ sym (map_so_far (λ (n : Node). n.loc) nodes i c.node-item.result c.loop-node-test.true c.node-item.is)
