use Rattle.std.proofs.Common.{◌≡◌, ◌+◌, ◌-◌, true, length}
use Rattle.node_quotient.specs.Alike.{class_in}
use Rattle.node_quotient.specs.Quotient.{AreLeast}
use Rattle.node_quotient.specs.Rounds.{AreClasses}
use Rattle.node_quotient.proofs.Bridge.{times, to_come, total}
use Rattle.node_quotient.proofs.joined.settled_classes.Given as goal

abbrev pub invariant-rounds : goal.invariant-rounds
invariant-rounds l = record {
  size : length l.least.items ≡ length l.graph.nodes;
  classes : AreClasses l.graph (class_in l.least.items);
  settled : l.settled ≡ true → AreLeast l.graph (class_in l.least.items);
}

abbrev pub decreases-rounds : goal.decreases-rounds
decreases-rounds l = (to_come l.settled + times (length l.least.items) (length l.least.items)) - total l.least.items
