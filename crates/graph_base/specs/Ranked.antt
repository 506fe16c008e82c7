-- The nodes at a router that have a rank, and those that have none.
use Rattle.std.specs.Prelude.{◌≡◌, ℕ, ◌<◌, IsTrue, IsSome, None, length}
use Rattle.net_base.specs.Network.{PlainNet, is_router}
use Rattle.graph_base.specs.Graphs.{PlainGraph}
use Rattle.graph_base.specs.Runs.{place_of, rank_at}

-- a node at a location that has a rank
abbrev pub IsRankedAt : PlainGraph → ℕ → ℕ → Type 0
IsRankedAt g r n = (n < length g.nodes) × (place_of g n ≡ r) × IsSome (rank_at g n)

-- and one that has none
abbrev pub IsUnrankedAt : PlainGraph → ℕ → ℕ → Type 0
IsUnrankedAt g r n = (n < length g.nodes) × (place_of g n ≡ r) × (rank_at g n ≡ None)

-- a router at which a node has a rank
abbrev pub IsRankedRouter : PlainNet → PlainGraph → ℕ → Type 0
IsRankedRouter net g l = IsTrue (is_router net l) × ((n : ℕ) × IsRankedAt g l n)
