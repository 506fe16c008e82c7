use Rattle.graph_law.proofs.Claimed.{claimed_where_ranked}
use Rattle.graph_law.proofs.claimed_routers_are_ranked.Goals as goal

pub returns : goal.returns
returns c = λ net s case g l rules faithful. claimed_where_ranked net s case g rules faithful l
