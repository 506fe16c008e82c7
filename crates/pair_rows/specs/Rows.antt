-- The rows of a place in order, and graphs that show them.
use Rattle.std.specs.Prelude.{◌≡◌, ◌⊎◌, ◌↔◌, ℕ, ◌<◌, List, [], ◌∷◌, slice_get, Option, Some, None}
use Rattle.std.specs.Option.{option_and_then}
use Rattle.list_law.specs.Members.{IsIn}
use Rattle.net_base.specs.Network.{PlainNet}
use Rattle.net_base.specs.Prefixes.{PlainPrefix}
use Rattle.policy_base.specs.Policies.{PlainPolicy}
use Rattle.graph_base.specs.Graphs.{IsGraph, PlainGraph}
use Rattle.graph_base.specs.Runs.{rank_at, run}
use Rattle.pair_graph.specs.declared.pair.NodePair.{NodePair}
use Rattle.pair_graph.specs.Made.{IsPairGraph}
use Rattle.compare_base.specs.declared.rows.Place.{Place}
use Rattle.compare_base.specs.declared.rows.Row.{Row}
use Rattle.compare_base.specs.Order.{IsLess}
use Rattle.compare_base.specs.Ranks.{HasRow, rank_for}

-- ---- rows

-- by rank in the old policy, and then in the new one, none last
abbrev pub IsEarlier : Row → Row → Type 0
IsEarlier a b = IsLess a.old b.old ⊎ ((a.old ≡ b.old) × IsLess a.new b.new)

-- the rows of a place, in order
pub record AreRows (net : PlainNet) (old new : PlainPolicy) (p : PlainPrefix) (place : Place) (rows : List Row) : Type 0 where
  pub those : (row : Row) → IsIn rows row ↔ HasRow net old new p place.router place.peer row
  pub order : (i j : ℕ) (a b : Row) → i < j → slice_get rows i ≡ Some a → slice_get rows j ≡ Some b → IsEarlier a b

-- ---- graphs

-- Each walk has the rank of the node to which it leads: what the policy says of the walks of a prefix.
abbrev pub ShowsRanks : PlainNet → PlainPolicy → PlainPrefix → PlainGraph → Type 0
ShowsRanks net policy p g = (path : List ℕ) → rank_for net policy p path ≡ option_and_then (rank_at g) (run g path)

abbrev pub no_graph : PlainGraph
no_graph = record { nodes = []; starts = []; steps = [] }

-- two graphs show the ranks that two policies give, and a third one stands for both
pub record AreCompared (net : PlainNet) (old new : PlainPolicy) (p : PlainPrefix) (g h : PlainGraph) (pairs : List NodePair) (both : PlainGraph) : Type 0 where
  pub one : ShowsRanks net old p g
  pub other : ShowsRanks net new p h
  pub is : IsPairGraph g h pairs both
  pub rules : IsGraph both

-- a walk of a router, from its peer where there is one
abbrev pub from_peer : Option ℕ → List ℕ → List ℕ
from_peer None walk = walk
from_peer (Some peer) walk = peer ∷ walk
