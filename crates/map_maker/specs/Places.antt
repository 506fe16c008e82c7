-- The patterns at some places.
use Rattle.std.specs.Prelude.{ℕ, List, [], ◌∷◌, ◌++◌, Option, Some, None, slice_get}
use Rattle.net_base.specs.Prefixes.{PlainPattern}

-- a place behind the last one has none
abbrev pub at_places : List PlainPattern → List ℕ → List PlainPattern
at_places patterns [] = []
at_places patterns (j ∷ js) = found (slice_get patterns j) ++ at_places patterns js
  where
    found : Option PlainPattern → List PlainPattern
    found None = []
    found (Some q) = q ∷ []
