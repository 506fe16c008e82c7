-- The least number that passes a test.
use Rattle.std.specs.Prelude.{ℕ, zero, suc, Bool, Option, Some, None, if◌then◌else◌}

abbrev pub or_else : Option ℕ → Bool → ℕ → Option ℕ
or_else (Some k) passes n = Some k
or_else None passes n = if passes then Some n else None

-- the least number below a bound that passes
abbrev pub least_below : ℕ → (ℕ → Bool) → Option ℕ
least_below zero passes = None
least_below (suc n) passes = or_else (least_below n passes) (passes n) n
