-- Which locations a set has.
use Rattle.std.specs.Prelude.{◌≡◌, ℕ, ◌+◌, ◌<◌, length, ◌/◌, ◌%◌, ◌^◌, ◌==◌, Bool, zero, suc, List, [], ◌∷◌, slice_index, if◌then◌else◌}
use Rattle.std.specs.Int.{bit_at}
use Rattle.std.specs.Str.{bytes_eq}
use Rattle.net_base.specs.declared.loc.LocSet.{LocSet}

-- The set holds the location: its bit is set. No set holds a location from 768 on.
abbrev pub holds : LocSet → ℕ → Bool
holds s l = bit_at (slice_index s.words (l / 64)) (l % 64) == 1

-- the same locations
abbrev pub same_set : LocSet → LocSet → Bool
same_set s t = bytes_eq s.words t.words

-- the word whose bit b, below n, says whether k + b passes the test
unfoldable pub word_of : (ℕ → Bool) → ℕ → ℕ → ℕ
word_of p k zero = 0
word_of p k (suc n) = word_of p k n + (if p (k + n) then 2 ^ n else 0)

unfoldable pub words_of : (ℕ → Bool) → ℕ → ℕ → List ℕ
words_of p k zero = []
words_of p k (suc n) = word_of p k 64 ∷ words_of p (k + 64) n

-- the set of the locations below 768 that pass a test
unfoldable pub set_of : (ℕ → Bool) → LocSet
set_of p = record { words = words_of p 0 12 }

-- what every set of the program is: twelve words of 64 bits
pub record IsWords (s : LocSet) : Type 0 where
  pub size : length s.words ≡ 12
  pub fit : (i : ℕ) → slice_index s.words i < 2 ^ 64
