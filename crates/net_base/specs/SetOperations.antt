-- Sets of locations, word by word.
use Rattle.std.specs.Prelude.{ℕ, ◌==◌, ◌/◌, ◌%◌, ◌^◌, Bool, List, [], ◌∷◌, map, replicate, slice_index, slice_set, bit_and, bit_or, bit_xor, count_ones, sum_by}
use Rattle.std.specs.List.{list_all, range_with_len}
use Rattle.net_base.specs.declared.loc.LocSet.{LocSet}

abbrev pub no_location : LocSet
no_location = record { words = replicate 12 0 }

-- one location more: its bit is set
abbrev pub with_location : LocSet → ℕ → LocSet
with_location s l = record { words = slice_set s.words (l / 64) (bit_or (slice_index s.words (l / 64)) (2 ^ (l % 64))) }

-- the locations of both
abbrev pub union_of : LocSet → LocSet → LocSet
union_of s t = record { words = map (λ i. bit_or (slice_index s.words i) (slice_index t.words i)) (range_with_len 0 12) }

abbrev pub common_words : List ℕ → List ℕ → List ℕ
common_words [] ws = []
common_words (v ∷ vs) [] = []
common_words (v ∷ vs) (w ∷ ws) = bit_and v w ∷ common_words vs ws

-- the locations in both
abbrev pub common : LocSet → LocSet → LocSet
common s t = record { words = common_words s.words t.words }

abbrev pub outside_words : List ℕ → List ℕ → List ℕ
outside_words [] ws = []
outside_words (v ∷ vs) [] = v ∷ vs
outside_words (v ∷ vs) (w ∷ ws) = bit_and v (bit_xor v w) ∷ outside_words vs ws

-- the locations of the first outside the second
abbrev pub outside : LocSet → LocSet → LocSet
outside s t = record { words = outside_words s.words t.words }

-- no bit is set
abbrev pub is_empty : LocSet → Bool
is_empty s = list_all (λ w. w == 0) s.words

-- how many locations a set has: as many as bits are set
abbrev pub size_of : LocSet → ℕ
size_of s = sum_by count_ones s.words
