use Rattle.std.proofs.Common.{◌≡◌, ℕ, nat_lt}
use Rattle.state_simulation.specs.Looked.{is_keyed}
use Rattle.state_simulation.proofs.ordering.keyed_nodes.Given as goal

abbrev pub invariant-loop-node : goal.invariant-loop-node
invariant-loop-node l = (n : ℕ) → is_keyed l.keyed.items n ≡ nat_lt n l.node
