-- Ranks of nodes of two graphs, of which those of the second are counted behind those of the first.
use Rattle.std.specs.Prelude.{◌≡◌, ℕ, ◌-◌, ◌<◌, List, Option, Some, None, length, min}
use Rattle.std.specs.Option.{option_map_or}
use Rattle.list_law.specs.Members.{IsIn}
use Rattle.graph_base.specs.Graphs.{PlainGraph}
use Rattle.graph_base.specs.Runs.{rank_at}

abbrev pub SameRank : PlainGraph → PlainGraph → ℕ × ℕ → Type 0
SameRank t g q = rank_at t q.0 ≡ rank_at g (q.1 - length t.nodes)

-- the least node of the second graph that is paired with one of another rank
abbrev pub IsLeastUnlike : PlainGraph → PlainGraph → List (ℕ × ℕ) → Option ℕ → Type 0
IsLeastUnlike t g pairs None = (q : ℕ × ℕ) → IsIn pairs q → SameRank t g q
IsLeastUnlike t g pairs (Some n) =
    ((q : ℕ × ℕ) × IsIn pairs q × (q.1 - length t.nodes ≡ n) × ¬ SameRank t g q) × ((q : ℕ × ℕ) → IsIn pairs q → q.1 - length t.nodes < n → SameRank t g q)

-- the lesser of two numbers, where there is a first one
abbrev pub lesser_of : Option ℕ → ℕ → ℕ
lesser_of o n = option_map_or (λ m. min m n) o n
