-- Where a number or a word at the front of a text ends.
use Rattle.std.specs.Prelude.{ℕ, ◌||◌, ◌==◌, Bool, true, false, not, List, [], ◌∷◌}

-- a word of such bytes ends before this text
abbrev pub stops : (ℕ → Bool) → List ℕ → Bool
stops p [] = true
stops p (b ∷ bs) = not (p b)

-- a comma or a line feed comes next
abbrev pub ends_pattern : List ℕ → Bool
ends_pattern [] = false
ends_pattern (b ∷ bs) = (b == 44) || (b == 10)
