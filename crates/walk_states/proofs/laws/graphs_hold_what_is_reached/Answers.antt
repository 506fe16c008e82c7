use Rattle.walk_states.proofs.OneGraph.{no_more_states}
use Rattle.walk_states.proofs.laws.graphs_hold_what_is_reached.Goals as goal

pub returns : goal.returns
returns c = no_more_states
