-- Lines and columns.
use Rattle.std.specs.Prelude.{ℕ, ◌+◌, ◌==◌, List, [], ◌∷◌, take, if◌then◌else◌}
use Rattle.net_base.specs.declared.place.Place.{Place}

-- the place behind one byte: a line feed ends its line, and every other byte takes one column
abbrev pub next_place : Place → ℕ → Place
next_place p b = if b == 10 then record { line = p.line + 1; column = 1 } else record { line = p.line; column = p.column + 1 }

-- the place behind some bytes
abbrev pub place_after : Place → List ℕ → Place
place_after p [] = p
place_after p (b ∷ bs) = place_after (next_place p b) bs

-- where a text begins
abbrev pub first_place : Place
first_place = record { line = 1; column = 1 }

-- the place of the byte before which so many bytes of the text stand
abbrev pub place_of : List ℕ → ℕ → Place
place_of text i = place_after first_place (take i text)
