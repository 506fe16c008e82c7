use Rattle.lint_ranks.proofs.NodeRanks.{both}
use Rattle.lint_ranks.proofs.laws.ranks_of_nodes_are_those_of_walks.Goals as goal

pub returns : goal.returns
returns c = both
