-- The pairs of nodes to which one list of places leads.
use Rattle.std.specs.Prelude.{◌≡◌, ℕ, List, [], ◌∷◌, ◌++◌, Some, if◌then◌else◌}
use Rattle.std.specs.List.{list_any}
use Rattle.node_classes.specs.declared.way.Way.{Way}
use Rattle.node_classes.specs.Ways.{follow, same_pair}

-- one list of places leads from a to x, and from b to y
abbrev pub AreMet : List Way → ℕ → ℕ → ℕ → ℕ → Type 0
AreMet ways a b x y = (path : List ℕ) × (follow ways a path ≡ Some x) × (follow ways b path ≡ Some y)

-- a pair behind the others, unless it is there
abbrev pub with_pair : List (ℕ × ℕ) → ℕ × ℕ → List (ℕ × ℕ)
with_pair pairs p = if list_any (same_pair p) pairs then pairs else pairs ++ p ∷ []

abbrev pub with_pairs : List (ℕ × ℕ) → List (ℕ × ℕ) → List (ℕ × ℕ)
with_pairs pairs [] = pairs
with_pairs pairs (p ∷ ps) = with_pairs (with_pair pairs p) ps
