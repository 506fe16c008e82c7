use Rattle.std.proofs.Common.{◌≡◌, ◌≤◌, length}
use Rattle.node_quotient.specs.Splits.{AreGroups}
use Rattle.node_quotient.proofs.grouping.grouped.Given as goal

abbrev pub invariant-loop-node : goal.invariant-loop-node
invariant-loop-node l = record {
  end : l.node ≤ length l.keys;
  size : length l.groups.items ≡ l.bound;
  groups : AreGroups l.node l.keys l.groups.items;
}
