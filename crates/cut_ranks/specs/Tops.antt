-- The nodes with the greatest numbers.
use Rattle.std.specs.Prelude.{◌≡◌, ℕ, ◌<◌, ◌≤◌, Bool, true, nat_lt, IsTrue, List, length, Option, Some, None, slice_index_or}
use Rattle.graph_base.specs.Graphs.{PlainGraph}
use Rattle.graph_base.specs.Runs.{place_of}
use Rattle.evidence_base.specs.Made.{PlainCaseEvidence, number_at}

-- what a table has for a location
abbrev pub entry_at : {A : Type 0} → List (Option A) → ℕ → Option A
entry_at table l = slice_index_or table l None

abbrev pub is_better : PlainCaseEvidence → ℕ → Option ℕ → Bool
is_better c n None = true
is_better c n (Some best) = nat_lt (number_at c best) (number_at c n)

-- Of the nodes below a bound that are marked the table has, at each router, one with the greatest number.
pub record AreBest (c : PlainCaseEvidence) (marked : ℕ → Bool) (routers bound : ℕ) (best : List (Option ℕ)) : Type 0 where
  pub size : length best ≡ routers
  pub here : (r n : ℕ) → entry_at best r ≡ Some n → (n < bound) × IsTrue (marked n) × (place_of c.graph n ≡ r)
  pub over : (m : ℕ) → m < bound → IsTrue (marked m) → place_of c.graph m < routers → (n : ℕ) × (entry_at best (place_of c.graph m) ≡ Some n) × (number_at c m ≤ number_at c n)

-- what a table has for routers are nodes
abbrev pub AreNodes : PlainGraph → List (Option ℕ) → Type 0
AreNodes g tops = (r n : ℕ) → entry_at tops r ≡ Some n → n < length g.nodes
