use Rattle.graph_law.proofs.OneTrimmed.{same_trimmed_graphs}
use Rattle.graph_law.proofs.trimmed_graphs_are_one.Goals as goal

pub returns : goal.returns
returns c = same_trimmed_graphs
