use Rattle.pair_rows.proofs.CaseRanks.{ungoverned, unoriginated}
use Rattle.pair_changes.proofs.Shows.{shows_no_walks}
use Rattle.pair_changes.proofs.laws.no_graph_shows_no_walks.Goals as goal

pub returns-clause-ungoverned : goal.returns-clause-ungoverned
returns-clause-ungoverned c = λ net policy p none. shows_no_walks net policy p (ungoverned net policy p none)

pub returns-clause-unoriginated : goal.returns-clause-unoriginated
returns-clause-unoriginated c = λ net policy p none. shows_no_walks net policy p (unoriginated net policy p none)
