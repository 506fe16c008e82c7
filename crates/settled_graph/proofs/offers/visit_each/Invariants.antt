use Rattle.std.proofs.Common.{◌≡◌, ℕ, Bool, length, take}
use Rattle.settled_graph.specs.Offers.{AreLowest, AreOfNodes}
use Rattle.settled_graph.proofs.Lowest.{through}
use Rattle.settled_graph.proofs.offers.visit_each.Given as goal

abbrev pub invariant-loop-to : goal.invariant-loop-to
invariant-loop-to l = record {
  size : length l.offers.items ≡ 768;
  nodes : AreOfNodes l.graph l.offers.items;
  lowest : (passes : ℕ → ℕ → Bool) → AreLowest l.net l.graph l.numbers l.wanted passes l.initial.offers.items
      → AreLowest l.net l.graph l.numbers l.wanted (through passes l.from (take l.to-index l.nodes)) l.offers.items;
}
