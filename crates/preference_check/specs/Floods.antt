-- Searches that mark what they come to with the least number from which it is reached.
use Rattle.std.specs.Prelude.{◌≡◌, ℕ, ◌+◌, ◌<◌, ◌≤◌, Bool, false, not, ◌&&◌, ◌||◌, nat_le, IsTrue, List, [], Option, None, is_some, is_none, length, slice_index_or, vec_len}
use Rattle.std.specs.List.{count_by}
use Rattle.graph_base.specs.Graphs.{PlainGraph}
use Rattle.graph_base.specs.Rules.{steps_on}
use Rattle.graph_base.specs.Runs.{place_of, is_listener, has_step, Reaches}
use Rattle.reach_prune.specs.Searches.{AreLists, is_among, is_listed, is_marked}
use Rattle.graph_base.specs.Preferences.{number_in}
use Rattle.preference_check.specs.Rows.{has_upto}
use Rattle.preference_check.specs.declared.flood.Flood.{Flood}

abbrev pub has_mark : List (Option ℕ) → ℕ → Bool
has_mark marks n = is_some (slice_index_or marks n None)

-- how much is left to do: nodes without a mark, and nodes that wait
abbrev pub flood_left : Flood → ℕ
flood_left f = count_by is_none f.marks.items + vec_len f.waiting

-- what a search with a number does as it comes to some nodes: those without a mark get the number and wait
pub record Marks (number : ℕ) (nodes : ℕ → Bool) (old new : Flood) : Type 0 where
  pub size : vec_len new.marks ≡ vec_len old.marks
  pub marked : (n : ℕ) → has_mark new.marks.items n ≡ (has_mark old.marks.items n || nodes n)
  pub marks : (n v : ℕ) → has_upto new.marks.items n v ≡ (has_upto old.marks.items n v || (nodes n && (not (has_mark old.marks.items n) && nat_le number v)))
  pub waiting : (n : ℕ) → is_among new.waiting.items n ≡ (is_among old.waiting.items n || (nodes n && not (has_mark old.marks.items n)))
  pub left : flood_left new ≡ flood_left old

-- between two searches nothing waits, a node that is listed behind one with a mark has no greater one, and no mark is greater than a number
pub record IsBetweenSearches (lists : List (List ℕ)) (number : ℕ) (f : Flood) : Type 0 where
  pub size : vec_len f.marks ≡ length lists
  pub idle : f.waiting.items ≡ []
  pub closed : (a b v : ℕ) → IsTrue (has_upto f.marks.items a v) → IsTrue (is_listed lists a b) → IsTrue (has_upto f.marks.items b v)
  pub bounded : (n : ℕ) → IsTrue (has_mark f.marks.items n) → IsTrue (has_upto f.marks.items n number)

-- lists with the steps of a graph
pub record AreNeighbours (g : PlainGraph) (lists : List (List ℕ)) : Type 0 where
  pub size : length lists ≡ length g.nodes
  pub are : AreLists lists
  pub steps : (a b : ℕ) → is_listed lists a b ≡ has_step g a b

-- the number of a node at a location to which a node steps is no greater than its own mark
abbrev pub AreNoLess : PlainGraph → (ℕ → ℕ) → ℕ → List (Option ℕ) → ℕ → Type 0
AreNoLess g number l lows m = (s v : ℕ) → IsTrue (steps_on g m s) → place_of g s ≡ l → IsTrue (has_upto lows m v) → number s ≤ v

-- a row has at each location the least number of the first nodes that are marked
pub record AreLeast (g : PlainGraph) (numbers : List ℕ) (marks : List Bool) (count : ℕ) (row : List (Option ℕ)) : Type 0 where
  pub whole : (k v : ℕ) → k < count → IsTrue (is_marked marks k) → number_in numbers k ≤ v → IsTrue (has_upto row (place_of g k) v)
  pub sound : (l v : ℕ) → IsTrue (has_upto row l v) → (k : ℕ) × (k < count) × IsTrue (is_marked marks k) × (place_of g k ≡ l) × (number_in numbers k ≤ v)

-- a node hears, or no number at its location in the row is less than its own
abbrev pub IsNoGreater : PlainGraph → List ℕ → List (Option ℕ) → ℕ → Type 0
IsNoGreater g numbers row t = is_listener g t ≡ false → (v : ℕ) → IsTrue (has_upto row (place_of g t) v) → number_in numbers t ≤ v

-- the loop rule of a node with itself at one router
abbrev pub KeepsLoopAt : PlainGraph → (ℕ → ℕ) → ℕ → ℕ → Type 0
KeepsLoopAt g number l m = (s k : ℕ) → IsTrue (steps_on g m s) → place_of g s ≡ l → k < length g.nodes → place_of g k ≡ l → Reaches g k m → number s ≤ number k

-- of the first nodes those at one location have one number
abbrev pub HaveOneNumber : PlainGraph → (ℕ → ℕ) → ℕ → Type 0
HaveOneNumber g number count = (m n : ℕ) → m < count → n < count → place_of g m ≡ place_of g n → number m ≡ number n
