-- Rows of bits as words.
use Rattle.std.specs.Prelude.{ℕ, ◌/◌, ◌%◌, ◌==◌, Bool, List, bit_and, slice_index}
use Rattle.std.specs.Int.{bit_at, bit_not, w64}

-- the bit is set; past the last word none is
abbrev pub has : List ℕ → ℕ → Bool
has words b = bit_at (slice_index words (b / 64)) (b % 64) == 1

-- the bits of two words that the third one hasn't
abbrev pub outside : ℕ → ℕ → ℕ → ℕ
outside x y z = bit_and (bit_and x y) (bit_not w64 z)
