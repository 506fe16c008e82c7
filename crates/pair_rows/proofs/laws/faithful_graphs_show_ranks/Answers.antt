use Rattle.pair_rows.proofs.CaseRanks.{shows_ranks}
use Rattle.pair_rows.proofs.laws.faithful_graphs_show_ranks.Goals as goal

pub returns : goal.returns
returns c = λ net policy p s case g rules faithful governs origins. shows_ranks net policy p s case g rules faithful governs origins
