use Rattle.pair_graph.proofs.Orders.{shown_in_order}
use Rattle.pair_graph.proofs.laws.shown_walks_are_in_order.Goals as goal

pub returns : goal.returns
returns c = λ g m n walk other order lt. shown_in_order g order m n walk other lt
