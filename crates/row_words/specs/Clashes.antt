-- Rows that tell of a difference.
use Rattle.std.specs.Prelude.{ℕ, Bool, false, not, ◌&&◌, ◌||◌, nat_lt, Option, Some, None, is_none, is_some}
use Rattle.compare_base.specs.declared.rows.Row.{Row}

-- both policies permit the walk, only the old one does, or only the new one
abbrev pub is_common : Row → Bool
is_common row = is_some row.old && is_some row.new

abbrev pub is_lost : Row → Bool
is_lost row = is_some row.old && is_none row.new

abbrev pub is_gained : Row → Bool
is_gained row = is_none row.old && is_some row.new

-- one of them holds and not the other
abbrev pub apart : Bool → Bool → Bool
apart a b = (a && not b) || (not a && b)

-- i compares with k in another way than j with l: less, equal or greater
abbrev pub ranks_differ : ℕ → ℕ → ℕ → ℕ → Bool
ranks_differ i j k l = apart (nat_lt i k) (nat_lt j l) || apart (nat_lt k i) (nat_lt l j)

abbrev pub both_ranks : Option ℕ → Option ℕ → Option (ℕ × ℕ)
both_ranks (Some i) (Some j) = Some (i, j)
both_ranks (Some i) None = None
both_ranks None new = None

abbrev pub pairs_differ : Option (ℕ × ℕ) → Option (ℕ × ℕ) → Bool
pairs_differ (Some a) (Some b) = ranks_differ a.0 a.1 b.0 b.1
pairs_differ (Some a) None = false
pairs_differ None b = false

-- The two policies order two walks otherwise, both of which they permit.
abbrev pub clashes : Row → Row → Bool
clashes a b = pairs_differ (both_ranks a.old a.new) (both_ranks b.old b.new)
