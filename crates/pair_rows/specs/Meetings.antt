-- Where the rows of walks are met in a graph of pairs.
use Rattle.std.specs.Prelude.{◌≡◌, ℕ, ◌+◌, ◌<◌, ◌≤◌, Bool, true, false, ◌&&◌, ◌||◌, IsTrue, is_some, nat_eq, nat_lt, List, [], ◌∷◌, ◌++◌, filter, map, slice_get, Option, Some, None, if◌then◌else◌}
use Rattle.std.specs.List.{flat_map}
use Rattle.std.specs.Option.{option_and_then, option_eq}
use Rattle.list_law.specs.Members.{IsIn}
use Rattle.graph_base.specs.Graphs.{PlainGraph}
use Rattle.graph_base.specs.Runs.{rank_at}
use Rattle.pair_graph.specs.declared.pair.NodePair.{NodePair}
use Rattle.compare_base.specs.declared.rows.Place.{Place}
use Rattle.compare_base.specs.declared.rows.Row.{Row}
use Rattle.compare_base.specs.Same.{same_place}
use Rattle.pair_rows.specs.declared.values.Met.{Met}
use Rattle.pair_rows.specs.declared.values.FirstRow.{FirstRow}

-- ---- rows that are met

-- the ranks of a pair of nodes
abbrev pub row_at : PlainGraph → PlainGraph → NodePair → Row
row_at g h x = record { old = option_and_then (rank_at g) x.first; new = option_and_then (rank_at h) x.second }

-- some policy permits the walk
abbrev pub is_row : Row → Bool
is_row row = is_some row.old || is_some row.new

abbrev pub met_if : Met → List Met
met_if met = if is_row met.row then met ∷ [] else []

-- what is met at the locations of nodes, which are numbered from n
abbrev pub node_mets : PlainGraph → PlainGraph → List NodePair → ℕ → List Met
node_mets g h [] n = []
node_mets g h (x ∷ xs) n = met_if (record { place = record { router = x.place; peer = None }; row = row_at g h x; node = n }) ++ node_mets g h xs (n + 1)

-- what a step meets from node n
abbrev pub met_between : PlainGraph → PlainGraph → ℕ → Option NodePair → Option NodePair → List Met
met_between g h n (Some x) (Some y) = met_if (record { place = record { router = x.place; peer = Some y.place }; row = row_at g h y; node = n })
met_between g h n (Some x) None = []
met_between g h n None to = []

abbrev pub step_mets : PlainGraph → PlainGraph → List NodePair → ℕ × ℕ → List Met
step_mets g h pairs step = met_between g h step.0 (slice_get pairs step.0) (slice_get pairs step.1)

abbrev pub all_mets : PlainGraph → PlainGraph → List NodePair → PlainGraph → List Met
all_mets g h pairs both = node_mets g h pairs 0 ++ flat_map (step_mets g h pairs) both.steps

-- ---- at a place

-- what is met at the place
abbrev pub is_at : Place → Met → Bool
is_at place met = same_place met.place place

abbrev pub mets_at : List Met → Place → List Met
mets_at mets place = filter (is_at place) mets

-- ---- first nodes

abbrev pub less_rank : Option ℕ → Option ℕ → Bool
less_rank (Some i) (Some j) = nat_lt i j
less_rank (Some i) None = true
less_rank None b = false

-- by rank in the old policy, and then in the new one, none last
abbrev pub earlier : Row → Row → Bool
earlier a b = less_rank a.old b.old || (option_eq nat_eq a.old b.old && less_rank a.new b.new)

-- each row that is met, once and in order, with the least node with which it is
pub record AreFirst (mets : List Met) (rows : List FirstRow) : Type 0 where
  pub sound : (x : FirstRow) → IsIn rows x → (met : Met) × IsIn mets met × (met.row ≡ x.row) × (met.node ≡ x.node)
  pub least : (x : FirstRow) (met : Met) → IsIn rows x → IsIn mets met → met.row ≡ x.row → x.node ≤ met.node
  pub all : (met : Met) → IsIn mets met → (x : FirstRow) × IsIn rows x × (x.row ≡ met.row)
  pub order : (i j : ℕ) (x y : FirstRow) → i < j → slice_get rows i ≡ Some x → slice_get rows j ≡ Some y → IsTrue (earlier x.row y.row)

-- rows without their nodes
abbrev pub rows_alone : List FirstRow → List Row
rows_alone rows = map (λ (x : FirstRow). x.row) rows
