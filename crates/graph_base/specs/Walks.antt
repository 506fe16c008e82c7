-- The walk by which a node is shown to a reader.
use Rattle.std.specs.Prelude.{◌≡◌, ◌⊎◌, ℕ, zero, suc, ◌<◌, ◌≤◌, false, IsTrue, List, [], ◌∷◌, length, if◌then◌else◌}
use Rattle.std.specs.Option.{option_map_or}
use Rattle.graph_base.specs.Graphs.{PlainGraph}
use Rattle.graph_base.specs.Least.{least_below}
use Rattle.graph_base.specs.Runs.{place_of, is_start, has_step}

-- each node is a start, or a node with a lesser number steps to it
abbrev pub IsEnteredFromBefore : PlainGraph → Type 0
IsEnteredFromBefore g = (n : ℕ) → n < length g.nodes → IsTrue (is_start g n) ⊎ ((m : ℕ) × (m < n) × IsTrue (has_step g m n))

-- m has the least number of the nodes that step to n
abbrev pub IsFirstBefore : PlainGraph → ℕ → ℕ → Type 0
IsFirstBefore g m n = IsTrue (has_step g m n) × ((k : ℕ) → IsTrue (has_step g k n) → m ≤ k)

-- the places from a node back to a start, over the first node that steps to each
abbrev pub IsShownWalk : PlainGraph → ℕ → List ℕ → Type 0
IsShownWalk g n [] = ⊥
IsShownWalk g n (l ∷ []) = IsTrue (is_start g n) × (l ≡ place_of g n)
IsShownWalk g n (l ∷ k ∷ ls) = (is_start g n ≡ false) × (l ≡ place_of g n) × ((m : ℕ) × IsFirstBefore g m n × IsShownWalk g m (k ∷ ls))

-- this walk as a function of the node: over the least-numbered node before each, where at most so many come before
abbrev pub walk_within : PlainGraph → ℕ → ℕ → List ℕ
walk_within g zero n = []
walk_within g (suc fuel) n =
    if is_start g n then place_of g n ∷ []
    else place_of g n ∷ option_map_or (walk_within g fuel) (least_below n (λ m. has_step g m n)) []

abbrev pub shown_walk : PlainGraph → ℕ → List ℕ
shown_walk g n = walk_within g (suc n) n
