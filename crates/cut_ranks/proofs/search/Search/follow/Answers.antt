use Rattle.std.proofs.Common.{get_or, refl, ap, ◌∙◌}
use Rattle.graph_base.specs.Runs.{place_of}
use Rattle.impact_law.specs.Cuts.{with_cut}
use Rattle.outcome_base.specs.Outcomes.{no_failures}
use Rattle.cut_ranks.specs.Left.{spares}
use Rattle.cut_ranks.proofs.Visits.{visits_more}
use Rattle.cut_ranks.proofs.search.Search.follow.Goals as goal

pub loop-node-preserved : goal.loop-node-preserved
loop-node-preserved c =
    let nodes = c.args.nodes.now in
    let node = get_or nodes c.loop-node.node-index 0 in
    visits_more (λ n. spares (with_cut c.args.cut.now no_failures) c.args.from (place_of c.args.graph.now n)) nodes c.loop-node.node-index node _ _ _ _ c.loop-node-test.true refl
    (c.spares.ensures ∙ ap (spares (with_cut c.args.cut.now no_failures) c.args.from) c.location-at.ensures) c.loop-node.invariant c.in_ok-visit.ensures
