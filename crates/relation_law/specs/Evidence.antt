-- How the relation and the rules of evidence go together.
use Rattle.std.specs.Prelude.{ℕ, ◌<◌, IsTrue, length, IsSome, if◌then◌else◌}
use Rattle.net_base.specs.declared.loc.LocSet.{LocSet}
use Rattle.net_base.specs.Network.{PlainNet, is_router}
use Rattle.net_base.specs.Sets.{holds}
use Rattle.graph_base.specs.Graphs.{PlainGraph}
use Rattle.graph_base.specs.Runs.{place_of, is_listener, rank_at}

-- only routers are claimed
abbrev pub AreRouters : PlainNet → LocSet → Type 0
AreRouters net claimed = (l : ℕ) → IsTrue (holds claimed l) → IsTrue (is_router net l)

-- each node that hears has a rank
abbrev pub AreRanked : PlainGraph → Type 0
AreRanked g = (n : ℕ) → n < length g.nodes → IsTrue (is_listener g n) → IsSome (rank_at g n)

-- the numbers at routers, and 0 elsewhere
abbrev pub at_routers : PlainNet → PlainGraph → (ℕ → ℕ) → ℕ → ℕ
at_routers net g number n = if is_router net (place_of g n) then number n else 0
