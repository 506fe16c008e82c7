use Rattle.graph_law.proofs.Claimed.{run_from, ranked_permits}
use Rattle.graph_law.proofs.runs_have_the_ranks_of_their_nodes.Goals as goal

pub returns-clause-walks : goal.returns-clause-walks
returns-clause-walks c = λ net s case g r n path rules faithful at may h. run_from net s case g rules faithful r n path at may h

pub returns-clause-permitted : goal.returns-clause-permitted
returns-clause-permitted c = λ net s case g r n path rules faithful at may h ranked. ranked_permits net s case g rules faithful r n path at may h ranked
