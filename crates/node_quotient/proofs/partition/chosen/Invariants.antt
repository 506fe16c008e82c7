use Rattle.std.proofs.Common.{◌≡◌, filter, take}
use Rattle.node_quotient.specs.Splits.{has_mark}
use Rattle.node_quotient.proofs.partition.chosen.Given as goal

abbrev pub invariant-loop-node : goal.invariant-loop-node
invariant-loop-node l = l.chosen ≡ filter (has_mark l.marks l.marked) (take l.node-index l.list)
