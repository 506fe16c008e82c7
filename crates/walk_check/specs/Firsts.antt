-- The first node of which something doesn't hold.
use Rattle.std.specs.Prelude.{◌≡◌, ℕ, ◌<◌, List, Option, Some, None}
use Rattle.graph_base.specs.Graphs.{PlainGraph}
use Rattle.graph_base.specs.Runs.{run}

-- the first of so many nodes of which it doesn't hold, or none where it holds of all
abbrev pub IsFirstOrNone : (ℕ → Type 0) → ℕ → Option ℕ → Type 0
IsFirstOrNone Holds count None = (n : ℕ) → n < count → Holds n
IsFirstOrNone Holds count (Some n) = (n < count) × (¬ Holds n) × ((k : ℕ) → k < n → Holds k)

-- one path has runs to both nodes
abbrev pub IsMet : PlainGraph → PlainGraph → ℕ → ℕ → Type 0
IsMet t g p n = (path : List ℕ) × (run t path ≡ Some p) × (run g path ≡ Some n)
