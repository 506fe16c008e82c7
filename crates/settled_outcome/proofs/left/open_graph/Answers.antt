use Rattle.std.proofs.Common.{ℕ, List, filter, subst, sym, ◌∙◌}
use Rattle.graph_base.specs.Graphs.{IsGraph}
use Rattle.graph_base.specs.declared.graph.Node.{Node}
use Rattle.settled_outcome.specs.Surviving.{lives_by}
use Rattle.settled_outcome.proofs.Surviving.{left_is_graph}
use Rattle.settled_outcome.proofs.left.open_graph.Goals as goal

pub new-requires : goal.new-requires
new-requires c =
    let graph = c.args.graph.now in
    let starts = filter (lives_by c.args.survivors.now graph) graph.starts in
    subst (λ (ns : List Node). IsGraph (record { nodes = ns; starts = c.in_ok-starts.starts; steps = c.in_ok-steps.steps }))
    (sym (c.from_vec-nodes.ensures ∙ c.in_ok-from_slice.ensures.items ∙ c.nodes.ensures.nodes))
    (subst (λ (xs : List ℕ). IsGraph (record { nodes = graph.nodes; starts = xs; steps = c.in_ok-steps.steps })) (sym c.in_ok-starts.ensures)
    (subst (λ (es : List (ℕ × ℕ)). IsGraph (record { nodes = graph.nodes; starts = starts; steps = es })) (sym c.in_ok-steps.ensures)
    (left_is_graph c.args.net.now c.args.survivors.now graph c.nodes.ensures.rules)))
