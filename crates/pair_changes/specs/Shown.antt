-- When a graph shows all that a policy says of the walks of a prefix.
use Rattle.std.specs.Prelude.{◌≡◌, ℕ, ◌<◌, IsSome, List, ◌++◌, length, Some}
use Rattle.net_base.specs.Network.{PlainNet}
use Rattle.net_base.specs.Prefixes.{PlainPrefix}
use Rattle.policy_base.specs.Policies.{PlainPolicy}
use Rattle.graph_base.specs.Graphs.{PlainGraph}
use Rattle.graph_base.specs.Runs.{run}
use Rattle.compare_base.specs.Ranks.{rank_for}
use Rattle.pair_rows.specs.Rows.{ShowsRanks}

-- Each walk has the rank of the node to which it leads, and each node is on a walk that has one.
pub record ShowsWalks (net : PlainNet) (policy : PlainPolicy) (p : PlainPrefix) (g : PlainGraph) : Type 0 where
  pub ranks : ShowsRanks net policy p g
  pub needed : (n : ℕ) → n < length g.nodes → (above path : List ℕ) × (run g path ≡ Some n) × IsSome (rank_for net policy p (above ++ path))
