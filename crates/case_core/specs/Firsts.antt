-- The first nodes at each router, with a rank and without one, and what a table of them shows.
use Rattle.std.specs.Prelude.{◌≡◌, ℕ, ◌<◌, Bool, not, ◌&&◌, ◌==◌, List, length, None, is_some, is_none, slice_index_or}
use Rattle.net_base.specs.declared.loc.LocSet.{LocSet}
use Rattle.net_base.specs.Sets.{holds}
use Rattle.policy_base.specs.declared.policy.FromSet.{FromSet}
use Rattle.graph_base.specs.Graphs.{PlainGraph}
use Rattle.graph_base.specs.Least.{least_below}
use Rattle.graph_base.specs.Runs.{place_of, rank_at}
use Rattle.case_core.specs.declared.firsts.Firsts.{Firsts}
use Rattle.case_core.specs.Sources.{names}

abbrev pub is_ranked_at : PlainGraph → ℕ → ℕ → Bool
is_ranked_at g r n = place_of g n == r && is_some (rank_at g n)

abbrev pub is_unranked_at : PlainGraph → ℕ → ℕ → Bool
is_unranked_at g r n = place_of g n == r && is_none (rank_at g n)

-- the first ones at a location among the nodes below n
abbrev pub firsts_below : PlainGraph → ℕ → ℕ → Firsts
firsts_below g n r = record { ranked = least_below n (is_ranked_at g r); unranked = least_below n (is_unranked_at g r) }

abbrev pub no_firsts : Firsts
no_firsts = record { ranked = None; unranked = None }

abbrev pub row : List Firsts → ℕ → Firsts
row table r = slice_index_or table r no_firsts

-- the table of these, with a row for each router
pub record AreFirsts (routers : ℕ) (g : PlainGraph) (n : ℕ) (table : List Firsts) : Type 0 where
  pub size : length table ≡ routers
  pub rows : (r : ℕ) → r < routers → row table r ≡ firsts_below g n r

-- `from` names the location, which is no origin, and no node there has a rank
abbrev pub lacks_path : FromSet → LocSet → List Firsts → ℕ → Bool
lacks_path from origins table r = names from r && not (holds origins r) && is_none (row table r).ranked

-- a node there has a rank, and another one has none
abbrev pub has_both : List Firsts → ℕ → Bool
has_both table r = is_some (row table r).ranked && is_some (row table r).unranked
