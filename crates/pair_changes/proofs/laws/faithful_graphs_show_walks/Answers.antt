use Rattle.pair_changes.proofs.Shows.{shows_walks}
use Rattle.pair_changes.proofs.laws.faithful_graphs_show_walks.Goals as goal

pub returns : goal.returns
returns c = λ net policy p s case g rules faithful governs origins. shows_walks net policy p s case g rules faithful governs origins
