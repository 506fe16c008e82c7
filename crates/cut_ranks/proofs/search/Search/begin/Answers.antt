use Rattle.std.proofs.Common.{get_or, refl, ap, ◌∙◌}
use Rattle.std.specs.Prelude.{not}
use Rattle.graph_base.specs.Runs.{place_of}
use Rattle.outcome_base.specs.Outcomes.{is_dead, no_failures}
use Rattle.impact_law.specs.Cuts.{with_cut}
use Rattle.cut_ranks.proofs.Visits.{visits_more}
use Rattle.cut_ranks.proofs.search.Search.begin.Goals as goal

pub loop-start-preserved : goal.loop-start-preserved
loop-start-preserved c =
    let starts = c.starts-start-items.result.now in
    let start = get_or starts c.loop-start.start-index 0 in
    visits_more (λ n. not (is_dead (with_cut c.args.cut.now no_failures) (place_of c.args.graph.now n))) starts c.loop-start.start-index start _ _ _ _
    c.loop-start-test.true refl (c.spares_at.ensures ∙ ap (λ l. not (is_dead (with_cut c.args.cut.now no_failures) l)) c.location-at.ensures)
    c.loop-start.invariant c.in_ok-visit.ensures
