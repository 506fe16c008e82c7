-- The directions of links.
use Rattle.std.specs.Prelude.{ℕ, List, [], ◌∷◌}

-- each link, from its first end to its second, and then back
abbrev pub each_way : List (ℕ × ℕ) → List (ℕ × ℕ)
each_way [] = []
each_way (l ∷ ls) = l ∷ (l.1, l.0) ∷ each_way ls
