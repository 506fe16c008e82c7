use Rattle.comparison_maker.proofs.CaseWalks.{AreShown, case_shows}
use Rattle.comparison_maker.proofs.laws.case_graphs_show_walks.Goals as goal

pub returns : goal.returns
returns c = λ net policy p g rules kept prefix graph is.
    let shown : AreShown = record {
      faithful = c.faithful_graphs_show_walks.ensures;
      ungoverned = c.no_graph_shows_no_walks.ensures.ungoverned;
      unoriginated = c.no_graph_shows_no_walks.ensures.unoriginated;
    } in
    case_shows net policy p rules kept prefix shown g graph is
