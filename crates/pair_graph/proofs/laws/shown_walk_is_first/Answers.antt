use Rattle.pair_graph.proofs.Orders.{shown_is_first}
use Rattle.pair_graph.proofs.laws.shown_walk_is_first.Goals as goal

pub returns : goal.returns
returns c = λ g n walk other rules order entered. shown_is_first g order rules entered n walk other
