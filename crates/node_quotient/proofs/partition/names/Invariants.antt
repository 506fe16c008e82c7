use Rattle.std.proofs.Common.{◌≤◌, ◌<◌, length}
use Rattle.std.specs.List.{AllByRecursion}
use Rattle.node_quotient.proofs.partition.names.Given as goal

abbrev pub invariant-loop-node : goal.invariant-loop-node
invariant-loop-node l = record {
  end : l.node ≤ length l.classes;
  below : AllByRecursion (λ n. n < length l.classes) l.names.items;
}
