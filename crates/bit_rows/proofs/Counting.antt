-- How many bits of a row are set.
use Rattle.std.proofs.Common.{◌≡◌, ℕ, zero, suc, ◌+◌, ◌*◌, ◌/◌, ◌%◌, ◌^◌, ◌<◌, Bool, cond, eqb, List, get_or, arith, refl, sym, ap, ◌∙◌, inl, inr}
use Rattle.std.proofs.lemmas.Bool.{cases_lt}
use Rattle.std.proofs.lemmas.Nat.Bits.{bit_at_lowest, bit_at-suc}
use Rattle.std.specs.Int.{bit_at}
use Rattle.std.specs.Int.Count.{ones-le, ones_step}
use Rattle.std.specs.List.{count_by, range_with_len}
use Rattle.std.specs.Prelude.{count_ones}
use native.Mathlib.Nat.{pow-suc}
use Rattle.list_law.proofs.Counts.{count_alike, count_first, count_split}
use Rattle.bit_rows.specs.Bits.{has}

-- the bits of a word, lowest first
pub ones_bits : (k w : ℕ) → w < 2 ^ k → count_ones w ≡ count_by (λ i. eqb (bit_at w i) 1) (range_with_len 0 k)
ones_bits zero w lt = omega (arith, ones-le 0 w lt)
ones_bits (suc k) w lt =
    let half : w / 2 < 2 ^ k = omega (arith, pow-suc 2 k) in
    let rest : count_by (λ i. eqb (bit_at w i) 1) (range_with_len (0 + 1) k) ≡ count_by (λ i. eqb (bit_at (w / 2) i) 1) (range_with_len 0 k) =
    count_alike (λ i. eqb (bit_at w i) 1) (λ i. eqb (bit_at (w / 2) i) 1) (0 + 1) 0 k (λ j lj.
    let up : (0 + 1) + j ≡ suc j = omega arith in
    let down : j ≡ 0 + j = omega arith in
    ap (λ i. eqb (bit_at w i) 1) up ∙ ap (λ z. eqb z 1) (bit_at-suc w j) ∙ ap (λ i. eqb (bit_at (w / 2) i) 1) down) in
    ones_step w ∙ ap (λ z. w % 2 + z) (ones_bits k (w / 2) half ∙ sym rest)
    ∙ ap (λ z. z + count_by (λ i. eqb (bit_at w i) 1) (range_with_len (0 + 1) k))
    (lowest (w % 2) (omega arith) ∙ ap (λ z. cond (eqb z 1) 1 0) (sym (bit_at_lowest w)))
    ∙ sym (count_first (λ i. eqb (bit_at w i) 1) 0 k)
  where
    lowest : (d : ℕ) → d < 2 → ◌≡◌ {A = ℕ} d (cond (eqb d 1) 1 0)
    lowest d lt = elim (cases_lt d 1) [
      | inl low ↦ (let e : d ≡ 0 = omega arith in rw e refl)
      | inr high ↦ (let e : d ≡ 1 = omega arith in rw e refl)
    ]

-- one word more, whose bits are the tests of its place
pub count_word : (p : ℕ → Bool) (i w : ℕ) → ((k : ℕ) → k < 64 → p (64 * i + k) ≡ eqb (bit_at w k) 1) → w < 2 ^ 64
    → count_by p (range_with_len 0 (64 * i)) + count_ones w ≡ count_by p (range_with_len 0 (64 * (i + 1)))
count_word p i w same lt =
    let more : 64 * (i + 1) ≡ 64 * i + 64 = omega arith in
    let word : count_by p (range_with_len (0 + 64 * i) 64) ≡ count_by (λ b. eqb (bit_at w b) 1) (range_with_len 0 64) = count_alike p (λ b. eqb (bit_at w b) 1) (0 + 64 * i) 0 64 (λ k lk.
    let at : 0 + 64 * i + k ≡ 64 * i + k = omega arith in
    let bit : k ≡ 0 + k = omega arith in
    ap p at ∙ same k lk ∙ ap (λ z. eqb (bit_at w z) 1) bit) in
    ap (λ z. count_by p (range_with_len 0 (64 * i)) + z) (ones_bits 64 w lt ∙ sym word) ∙ sym (ap (λ z. count_by p (range_with_len 0 z)) more ∙ count_split p 0 (64 * i) 64)

-- the bits of a row that stand in one word
pub word_bits : (row : List ℕ) (i k : ℕ) → k < 64 → has row (64 * i + k) ≡ eqb (bit_at (get_or row i 0) k) 1
word_bits row i k lk =
    let at : (64 * i + k) / 64 ≡ i = omega arith in
    let bit : (64 * i + k) % 64 ≡ k = omega arith in
    ap (λ z. eqb (bit_at (get_or row z 0) ((64 * i + k) % 64)) 1) at ∙ ap (λ z. eqb (bit_at (get_or row i 0) z) 1) bit
