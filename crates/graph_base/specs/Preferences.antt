-- Preference numbers of nodes, as lists of them.
use Rattle.std.specs.Prelude.{ℕ, List, slice_get, unwrap_or}

-- the preference number of a node, 0 for what isn't one
abbrev pub number_in : List ℕ → ℕ → ℕ
number_in numbers n = unwrap_or (slice_get numbers n) 0
