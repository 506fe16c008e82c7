use Rattle.std.proofs.Common.{◌≡◌, ◌++◌}
use Rattle.topology.proofs.links.in_order.Given as goal

abbrev pub invariant-loop-link : goal.invariant-loop-link
invariant-loop-link l = l.all.items ++ l.link-iterator ≡ l.links.keys
