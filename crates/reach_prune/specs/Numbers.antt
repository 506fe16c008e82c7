-- The new numbers of nodes that are kept.
use Rattle.std.specs.Prelude.{ℕ, List, Option, Some, None, option_and_then, option_map, slice_index_or, if◌then◌else◌, Bool}
use Rattle.list_law.specs.Counts.{kept_below}

-- the new number of a node, where it is kept
abbrev pub number_kept : (ℕ → Bool) → ℕ → Option ℕ
number_kept keep n = if keep n then Some (kept_below keep n) else None

abbrev pub number_in : List (Option ℕ) → ℕ → Option ℕ
number_in numbers n = slice_index_or numbers n None

-- the new numbers of both ends of a step, where both are kept
abbrev pub step_in : List (Option ℕ) → ℕ × ℕ → Option (ℕ × ℕ)
step_in numbers step = option_and_then (λ from. option_map (λ to. (from, to)) (number_in numbers step.1)) (number_in numbers step.0)
