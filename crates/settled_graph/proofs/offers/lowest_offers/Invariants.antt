use Rattle.std.proofs.Common.{◌≡◌, length, take}
use Rattle.settled_graph.specs.Offers.{AreLowest, AreOfNodes}
use Rattle.settled_graph.proofs.Lowest.{along}
use Rattle.settled_graph.proofs.offers.lowest_offers.Given as goal

abbrev pub invariant-loop-node : goal.invariant-loop-node
invariant-loop-node l = record {
  size : length l.offers.items ≡ 768;
  nodes : AreOfNodes l.graph l.offers.items;
  lowest : AreLowest l.net l.graph l.numbers l.wanted (along (take l.node-index l.front) l.lists) l.offers.items;
}
