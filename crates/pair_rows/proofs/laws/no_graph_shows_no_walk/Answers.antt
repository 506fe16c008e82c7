use Rattle.pair_rows.proofs.CaseRanks.{shows_nothing, ungoverned, unoriginated}
use Rattle.pair_rows.proofs.laws.no_graph_shows_no_walk.Goals as goal

pub returns-clause-ungoverned : goal.returns-clause-ungoverned
returns-clause-ungoverned c = λ net policy p none. shows_nothing net policy p (ungoverned net policy p none)

pub returns-clause-unoriginated : goal.returns-clause-unoriginated
returns-clause-unoriginated c = λ net policy p none. shows_nothing net policy p (unoriginated net policy p none)
