use Rattle.pair_rows.proofs.FirstWalks.{first_walks, nodes_within}
use Rattle.pair_rows.proofs.laws.least_nodes_show_first_walks.Goals as goal

pub returns-clause-within : goal.returns-clause-within
returns-clause-within c = λ net old new p g h both pairs place rows x are firsts at. nodes_within net old new p g h both pairs are place rows firsts x at

pub returns-clause-first : goal.returns-clause-first
returns-clause-first c = λ net old new p g h both pairs place rows x walk are firsts at shown. first_walks net old new p g h both pairs are place rows firsts x walk at shown
