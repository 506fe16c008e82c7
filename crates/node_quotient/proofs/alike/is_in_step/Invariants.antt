use Rattle.std.proofs.Common.{◌≡◌, ◌≤◌, drop, length}
use Rattle.node_quotient.specs.Alike.{are_in_step}
use Rattle.node_quotient.proofs.alike.is_in_step.Given as goal

abbrev pub invariant-loop-i : goal.invariant-loop-i
invariant-loop-i l = record {
  end : l.i ≤ length l.list;
  left : are_in_step l.least l.list l.other ≡ are_in_step l.least (drop l.i l.list) (drop l.i l.other);
}
