-- How addresses, prefixes and patterns are written.
use Rattle.std.specs.Prelude.{ℕ, ◌/◌, ◌%◌, ◌==◌, List, ◌++◌, codes, if◌then◌else◌}
use Rattle.std.specs.Fmt.{decimal}
use Rattle.net_base.specs.Prefixes.{PlainPrefix, PlainPattern}
use Rattle.net_base.specs.declared.place.Place.{Place}

-- four decimal numbers joined by dots, the highest byte first
abbrev pub address_text : ℕ → List ℕ
address_text bits =
    decimal (bits / 16777216) ++ codes "." ++ decimal (bits / 65536 % 256) ++ codes "." ++ decimal (bits / 256 % 256) ++ codes "." ++ decimal (bits % 256)

abbrev pub prefix_text : PlainPrefix → List ℕ
prefix_text p = address_text p.bits ++ codes "/" ++ decimal p.len

-- with the greatest length after it where that isn't its base's own
abbrev pub pattern_text : PlainPattern → List ℕ
pattern_text t = if t.upto == t.base.len then prefix_text t.base else prefix_text t.base ++ codes " le " ++ decimal t.upto

-- a word after a space
abbrev pub word_text : List ℕ → List ℕ
word_text word = codes " " ++ word

-- a place in an array
abbrev pub place_text : ℕ → List ℕ
place_text n = codes " place " ++ decimal n

-- a line and a column
abbrev pub at_place : Place → List ℕ
at_place p = codes " at " ++ decimal p.line ++ codes ":" ++ decimal p.column
