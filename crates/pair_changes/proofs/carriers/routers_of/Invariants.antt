use Rattle.std.proofs.Common.{◌≡◌, ℕ, take}
use Rattle.net_base.specs.Sets.{holds}
use Rattle.pair_changes.specs.Carriers.{has_node_at}
use Rattle.pair_changes.proofs.carriers.routers_of.Given as goal

abbrev pub invariant-loop-node : goal.invariant-loop-node
invariant-loop-node l = (r : ℕ) → holds l.routers r ≡ has_node_at l.net (take l.node-index l.graph.nodes) r
