use Rattle.std.proofs.Common.{◌≡◌, ◌≤◌, length}
use Rattle.node_quotient.specs.Alike.{class_in}
use Rattle.node_quotient.specs.Partitions.{IsPartition}
use Rattle.node_quotient.specs.Rounds.{AreClasses}
use Rattle.node_quotient.specs.Splits.{AreClear}
use Rattle.node_quotient.proofs.partition.split_classes.Given as goal

abbrev pub invariant-loop-turn : goal.invariant-loop-turn
invariant-loop-turn l = record {
  end : l.turn ≤ l.size;
  marks : length l.marks.items ≡ l.size;
  clear : AreClear l.marks.items;
  partition : IsPartition l.size l.partition;
  classes : AreClasses l.graph (class_in l.partition.classes.items);
}
