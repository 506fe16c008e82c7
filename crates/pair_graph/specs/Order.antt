-- Graphs whose nodes are numbered by the first of the shortest walks to each.
use Rattle.std.specs.Prelude.{◌≡◌, ◌⊎◌, ℕ, ◌<◌, false, IsTrue, List, [], ◌∷◌, length}
use Rattle.graph_base.specs.Graphs.{PlainGraph}
use Rattle.graph_base.specs.Runs.{is_start, place_of}
use Rattle.graph_base.specs.Walks.{IsFirstBefore}

-- of two walks of one length this one has the lesser location at the last place at which they differ
abbrev pub IsLesser : List ℕ → List ℕ → Type 0
IsLesser [] other = ⊥
IsLesser (l ∷ ls) [] = ⊥
IsLesser (l ∷ ls) (k ∷ ks) = IsLesser ls ks ⊎ ((ls ≡ ks) × (l < k))

-- the walk is shorter than the other, or as long and lesser
abbrev pub ComesBefore : List ℕ → List ℕ → Type 0
ComesBefore walk other = (length walk < length other) ⊎ IsLesser walk other

-- Starts are numbered by location, and then each node by the first node before it and by its own location.
pub record IsInOrder (g : PlainGraph) : Type 0 where
  pub starts : (m n : ℕ) → IsTrue (is_start g m) → IsTrue (is_start g n) → m < n → place_of g m < place_of g n
  pub first : (m n k : ℕ) → IsTrue (is_start g m) → is_start g n ≡ false → IsFirstBefore g k n → m < n
  pub steps : (m n j k : ℕ) → is_start g m ≡ false → is_start g n ≡ false → IsFirstBefore g j m → IsFirstBefore g k n → m < n
      → (j < k) ⊎ ((j ≡ k) × (place_of g m < place_of g n))
