-- Numbers in order, where there may be none.
use Rattle.std.specs.Prelude.{ℕ, ◌<◌, Option, Some, None}

-- by number, none last
abbrev pub IsLess : Option ℕ → Option ℕ → Type 0
IsLess (Some i) (Some j) = i < j
IsLess (Some i) None = Unit {0}
IsLess None b = ⊥
