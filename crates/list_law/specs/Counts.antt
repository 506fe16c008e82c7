-- Numbers that are kept.
use Rattle.std.specs.Prelude.{ℕ, ◌+◌, zero, suc, Bool, if◌then◌else◌}

-- how many of the numbers below n are kept
abbrev pub kept_below : (ℕ → Bool) → ℕ → ℕ
kept_below keep zero = 0
kept_below keep (suc n) = kept_below keep n + (if keep n then 1 else 0)
