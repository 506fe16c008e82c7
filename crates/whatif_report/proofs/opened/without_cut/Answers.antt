use Rattle.std.proofs.Common.{ℕ, List, filter, subst, sym, ◌∙◌}
use Rattle.std.specs.Prelude.{not}
use Rattle.graph_base.specs.Graphs.{IsGraph}
use Rattle.graph_base.specs.Runs.{place_of}
use Rattle.graph_base.specs.declared.graph.Node.{Node}
use Rattle.impact_law.specs.Cuts.{is_cut}
use Rattle.whatif_report.proofs.Opening.{without_is_graph}
use Rattle.whatif_report.proofs.opened.without_cut.Goals as goal

pub new-requires : goal.new-requires
new-requires c =
    let graph = c.args.graph.now in
    let starts = filter (λ n. not (is_cut c.args.cut.now (place_of graph n))) graph.starts in
    subst (λ (ns : List Node). IsGraph (record { nodes = ns; starts = c.in_ok-starts.starts; steps = c.in_ok-steps.steps }))
    (sym (c.from_vec-nodes.ensures ∙ c.in_ok-from_slice.ensures.items ∙ c.nodes.ensures.nodes))
    (subst (λ (xs : List ℕ). IsGraph (record { nodes = graph.nodes; starts = xs; steps = c.in_ok-steps.steps })) (sym c.in_ok-starts.ensures)
    (subst (λ (es : List (ℕ × ℕ)). IsGraph (record { nodes = graph.nodes; starts = starts; steps = es })) (sym c.in_ok-steps.ensures)
    (without_is_graph c.args.cut.now graph c.nodes.ensures.rules)))
