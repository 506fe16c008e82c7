use Rattle.std.proofs.Common.{◌≡◌, ℕ, ◌<◌, true}
use Rattle.net_base.specs.Sets.{holds}
use Rattle.walk_check.specs.Formed.{node_fits}
use Rattle.walk_check.proofs.formed.nodes_fit.Given as goal

abbrev pub invariant-loop-node : goal.invariant-loop-node
invariant-loop-node l = (n : ℕ) → n < l.node → node_fits l.net (holds l.case.origins) l.graph n ≡ true
