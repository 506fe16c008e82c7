use Rattle.std.proofs.Common.{length}
use Rattle.node_quotient.specs.Partitions.{IsPartition}
use Rattle.node_quotient.specs.Splits.{AreSplit}
use Rattle.reach_prune.specs.Searches.{is_marked}
use Rattle.node_quotient.proofs.partition.Partition.split_by.Given as goal

abbrev pub invariant-loop-node : goal.invariant-loop-node
invariant-loop-node l = record {
  partition : IsPartition (length l.before) l.self;
  classes : AreSplit (is_marked l.marks.items) l.initial.self.classes.items l.self.classes.items;
}
