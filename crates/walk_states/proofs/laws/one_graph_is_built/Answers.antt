use Rattle.walk_states.proofs.OneGraph.{one-graph}
use Rattle.walk_states.proofs.laws.one_graph_is_built.Goals as goal

pub returns : goal.returns
returns c = one-graph
