-- The parts of a text that is cut part by part.
use Rattle.std.specs.Prelude.{ℕ, ◌==◌, List, [], Option, Some, None}
use Rattle.std.specs.List.{slice_split}

-- the parts that are still to be cut, none where nothing is left
abbrev pub parts_left : ℕ → Option (List ℕ) → List (List ℕ)
parts_left sign None = []
parts_left sign (Some bytes) = slice_split (λ b. b == sign) bytes
