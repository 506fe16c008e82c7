-- Starts and steps of a graph, by the locations to which they lead.
use Rattle.std.specs.Prelude.{◌≡◌, ℕ, ◌+◌, ◌*◌, ◌<◌, ◌≤◌, Bool, ◌==◌, List, Option, filter, length, option_map, slice_index_or}
use Rattle.std.specs.List.{All, find}
use Rattle.std.specs.List.Sorted.{IsNonDecreasingBy}
use Rattle.graph_base.specs.Graphs.{PlainGraph}
use Rattle.graph_base.specs.Runs.{start_at, step_at}
use Rattle.pair_graph.specs.declared.pair.NodePair.{NodePair}
use Rattle.pair_graph.specs.declared.way.Way.{Way}
use Rattle.pair_graph.specs.Pairs.{joined}

abbrev pub from_of : Way → ℕ
from_of w = w.from

abbrev pub place_of : Way → ℕ
place_of w = w.place

-- by the node that steps, and then by location
abbrev pub turn_of : Way → ℕ
turn_of w = w.from * 65536 + w.place

abbrev pub comes_from : ℕ → Way → Bool
comes_from n w = w.from == n

-- all locations have 16 bits
abbrev pub AreLow : List Way → Type 0
AreLow ways = All (λ (w : Way). w.place < 65536) ways

-- ways in order of location
abbrev pub AreInOrder : List Way → Type 0
AreInOrder ways = IsNonDecreasingBy place_of ways

-- where the first way to a location leads
abbrev pub taken : List Way → ℕ → Option ℕ
taken ways l = option_map (λ (w : Way). w.to) (find (λ (w : Way). w.place == l) ways)

-- where the first ways of two lists lead
abbrev pub both_taken : List Way → List Way → ℕ → Option NodePair
both_taken first second l = joined l (taken first l) (taken second l)

-- the first of these at each location is the start there
abbrev pub AreStarts : PlainGraph → List Way → Type 0
AreStarts g ways = (l : ℕ) → taken ways l ≡ start_at g l

-- the first of these from each node to each location is its step there
abbrev pub AreSteps : PlainGraph → List Way → Type 0
AreSteps g ways = (n l : ℕ) → taken (filter (comes_from n) ways) l ≡ step_at g n l

-- those with numbers below b lie before the index, and no others
pub record IsCut {A : Type 0} (number : A → ℕ) (xs : List A) (b index : ℕ) : Type 0 where
  pub within : index ≤ length xs
  pub before : (k : ℕ) (d : A) → k < index → number (slice_index_or xs k d) < b
  pub behind : (k : ℕ) (d : A) → index ≤ k → k < length xs → b ≤ number (slice_index_or xs k d)

-- for each node the index at which its ways begin, and for the last one where they end
abbrev pub AreRuns : List Way → List ℕ → Type 0
AreRuns ways begins = (n d : ℕ) → n < length begins → IsCut from_of ways n (slice_index_or begins n d)
