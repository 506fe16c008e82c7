-- What is left of lines behind a block.
use Rattle.std.specs.Prelude.{ℕ, ◌-◌, nat_lt, Option, Some, None, if◌then◌else◌}

-- the rest of a number of lines behind so many, if there are so many
abbrev pub lines_behind : ℕ → ℕ → Option ℕ
lines_behind lines count = if nat_lt lines count then None else Some (lines - count)
