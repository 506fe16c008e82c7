-- How numbers and addresses are written.
use Rattle.std.specs.Prelude.{ℕ, ◌+◌, ◌-◌, ◌*◌, ◌^◌, Bool, ◌&&◌, ◌==◌, nat_le, List, [], ◌∷◌, take, drop, Option, Some, None, length, if◌then◌else◌}
use Rattle.std.specs.List.{position_or_len}
use Rattle.net_base.specs.OptionSteps.{◌>>=◌}

-- a digit from `0` to `9`, and one from `1`, which may lead
abbrev pub is_figure : ℕ → Bool
is_figure b = nat_le 48 b && nat_le b 57

abbrev pub is_leading : ℕ → Bool
is_leading b = nat_le 49 b && nat_le b 57

-- a decimal number of one to three digits, without a leading zero
abbrev pub small_number : List ℕ → Option ℕ
small_number (a ∷ []) = if is_figure a then Some (a - 48) else None
small_number (a ∷ b ∷ []) = if is_leading a && is_figure b then Some (10 * (a - 48) + (b - 48)) else None
small_number (a ∷ b ∷ c ∷ []) = if is_leading a && (is_figure b && is_figure c) then Some (100 * (a - 48) + 10 * (b - 48) + (c - 48)) else None
small_number _ = None

-- what stands before and after the first of this byte
abbrev pub cut_at : ℕ → List ℕ → Option (List ℕ × List ℕ)
cut_at sign bs = let i = position_or_len (λ b. b == sign) bs in if i == length bs then None else Some (take i bs, drop (i + 1) bs)

-- four numbers joined by dots
pub record Quad : Type 0 where
  pub first : ℕ
  pub second : ℕ
  pub third : ℕ
  pub fourth : ℕ

-- a number, and what stands after the dot that follows it
abbrev pub number_and_rest : List ℕ → Option (ℕ × List ℕ)
number_and_rest bs = do
  halves ← cut_at 46 bs
  n ← small_number halves.0
  Some (n, halves.1)

unfoldable pub quad_of : List ℕ → Option Quad
quad_of bs = do
  a ← number_and_rest bs
  b ← number_and_rest a.1
  c ← number_and_rest b.1
  d ← small_number c.1
  Some (record { first = a.0; second = b.0; third = c.0; fourth = d })

-- each of the four fits a byte
abbrev pub are_octets : Quad → Bool
are_octets q = nat_le q.first 255 && (nat_le q.second 255 && (nat_le q.third 255 && nat_le q.fourth 255))

-- the number of 32 bits that four bytes make, the first one highest
abbrev pub bits_of : Quad → ℕ
bits_of q = q.first * 2 ^ 24 + q.second * 2 ^ 16 + q.third * 2 ^ 8 + q.fourth

-- the address that a text spells: four bytes joined by dots
unfoldable pub address_of : List ℕ → Option ℕ
address_of bs = do
  q ← quad_of bs
  if are_octets q then Some (bits_of q) else None
