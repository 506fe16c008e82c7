use Rattle.std.proofs.Common.{◌≡◌, ℕ, take}
use Rattle.reach_prune.specs.Searches.{is_among}
use Rattle.state_simulation.specs.Looked.{is_keyed}
use Rattle.state_simulation.proofs.ordering.nodes_of.Given as goal

abbrev pub invariant-loop-node : goal.invariant-loop-node
invariant-loop-node l = (n : ℕ) → is_among l.order.items n ≡ is_keyed (take l.node-index l.keyed) n
