use Rattle.std.proofs.Common.{◌≡◌, ◌∙◌, List, length, ap, sym, subst}
use Rattle.graph_base.specs.Graphs.{IsGraph, PlainGraph}
use Rattle.pair_graph.specs.declared.pair.NodePair.{NodePair}
use Rattle.pair_graph.specs.Made.{AreFinders, IsPairGraph, graph_over}
use Rattle.pair_graph.proofs.Made.{finders, is_graph, is_pair_graph, size_made}
use Rattle.pair_graph.proofs.product.graph_of.Goals as goal

pub new-requires : goal.new-requires
new-requires c =
    let grown = c.args.growing in
    let r = c.requires in
    let same : graph_over grown.pairs.keys c.args.starts grown.steps.items ≡ record { nodes = c.in_ok-nodes.nodes; starts = c.in_ok-starts.starts; steps = c.into_parts-before.result.1 } =
    λ i. record { nodes = sym c.in_ok-nodes.ensures i; starts = sym c.in_ok-starts.ensures i; steps = sym c.into_parts-before.ensures.steps i } in
    subst IsGraph same (is_graph r.0 c.args.starts grown.pairs.keys grown.before.items grown.steps.items r.1 r.2 r.3 r.4)

pub invariant_of-result : goal.invariant_of-result
invariant_of-result c =
    let grown = c.args.growing in
    let r = c.requires in
    let same : c.new.result ≡ graph_over grown.pairs.keys c.args.starts grown.steps.items =
    c.new.ensures ∙ (λ i. record { nodes = c.in_ok-nodes.ensures i; starts = c.in_ok-starts.ensures i; steps = c.into_parts-before.ensures.steps i }) in
    record {
      size = ap length c.into_parts-before.ensures.before ∙ r.4.size ∙ sym (size_made r.0 c.args.starts grown.pairs.keys grown.before.items grown.steps.items r.1 r.2 r.3 r.4)
          ∙ ap (λ (g : PlainGraph). length g.nodes) (sym same);
      finders = subst (λ g. AreFinders g c.into_parts-before.result.0) (sym same) (subst (λ xs. AreFinders (graph_over grown.pairs.keys c.args.starts grown.steps.items) xs) (sym c.into_parts-before.ensures.before)
          (finders r.0 c.args.starts grown.pairs.keys grown.before.items grown.steps.items r.1 r.2 r.3 r.4));
    }

pub returns-clause-graph : goal.returns-clause-graph
returns-clause-graph c = λ g h k walks all is.
    let grown = c.args.growing in
    let same : c.new.result ≡ graph_over grown.pairs.keys c.args.starts grown.steps.items =
    c.new.ensures ∙ (λ i. record { nodes = c.in_ok-nodes.ensures i; starts = c.in_ok-starts.ensures i; steps = c.into_parts-before.ensures.steps i }) in
    subst (λ p. IsPairGraph g h c.in_ok-pairs.pairs p) (sym same) (subst (λ (xs : List NodePair). IsPairGraph g h xs (graph_over grown.pairs.keys c.args.starts grown.steps.items)) (sym c.in_ok-pairs.ensures)
    (is_pair_graph g h c.args.starts grown.pairs.keys grown.before.items grown.steps.items k walks all is))
