-- Tables of bits, row by row.
use Rattle.std.specs.Prelude.{◌≡◌, ℕ, ◌+◌, ◌*◌, ◌<◌, ◌≤◌, Bool, false, List, length, take, drop}
use Rattle.bit_rows.specs.declared.rows.TheConstants.{MAX_BITS}
use Rattle.bit_rows.specs.Bits.{has}

-- how many rows there are and how many bits in each, how many words a row takes, and the words, row after row
pub record PlainRows : Type 0 where
  pub count : ℕ
  pub bits : ℕ
  pub width : ℕ
  pub words : List ℕ

abbrev pub row_of : PlainRows → ℕ → List ℕ
row_of r row = take r.width (drop (row * r.width) r.words)

-- the bit of the row is set
abbrev pub has_at : PlainRows → ℕ → ℕ → Bool
has_at r row b = has (row_of r row) b

-- a table of so many rows and bits
pub record IsTable (r : PlainRows) : Type 0 where
  pub size : length r.words ≡ r.count * r.width
  pub few : r.bits ≤ MAX_BITS
  -- as few words as hold the bits
  pub room : r.bits ≤ 64 * r.width
  pub tight : 64 * r.width < r.bits + 64
  -- bits past the last one of a row are clear
  pub clear : (row b : ℕ) → row < r.count → r.bits ≤ b → has_at r row b ≡ false

-- as many rows and bits as the other has
pub record IsSameSize (one other : PlainRows) : Type 0 where
  pub count : one.count ≡ other.count
  pub bits : one.bits ≡ other.bits
  pub width : one.width ≡ other.width
