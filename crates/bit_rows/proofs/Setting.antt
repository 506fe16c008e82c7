-- One bit that is set.
use Rattle.std.proofs.Common.{◌≡◌, ℕ, ◌*◌, ◌/◌, ◌%◌, ◌^◌, ◌<◌, true, false, ◌||◌, eqb, List, length, get_or, set, get_or-set_same, get_or-set_other, arith, sym, ap, ◌∙◌, inl, inr, w64}
use Rattle.std.proofs.lemmas.Bool.{cases_eq, or_right, eq-eqb, ne_eqb}
use Rattle.std.proofs.lemmas.Nat.Bits.{bit_at_set_same, bit_at_set_other}
use Rattle.std.specs.Prelude.{bit_or}
use Rattle.std.specs.Int.{bit_at}
use Rattle.std.proofs.Math.Bool.{or-false}
use Rattle.bit_rows.specs.Bits.{has}

pub bit_set : (row : List ℕ) (bit b : ℕ) → bit < 64 * length row → has (set row (bit / 64) (bit_or (get_or row (bit / 64) 0) (1 * 2 ^ (bit % 64) % 2 ^ 64))) b ≡ (has row b || eqb b bit)
bit_set row bit b lt =
    let word : ℕ = bit_or (get_or row (bit / 64) 0) (1 * 2 ^ (bit % 64) % 2 ^ 64) in
    let inside : bit / 64 < length row = omega arith in
    let low : bit % 64 < 64 = omega arith in
    elim (cases_eq (b / 64) (bit / 64)) [
      | inl here ↦ (
          let read : get_or (set row (bit / 64) word) (b / 64) 0 ≡ word = ap (λ i. get_or (set row (bit / 64) word) i 0) here ∙ get_or-set_same row (bit / 64) word 0 inside in
          elim (cases_eq (b % 64) (bit % 64)) [
            | inl same ↦ (
                let is : eqb b bit ≡ true = eq-eqb b bit (omega arith) in
                ap (λ z. eqb (bit_at z (b % 64)) 1) read ∙ ap (λ i. eqb (bit_at word i) 1) same
                ∙ eq-eqb _ _ (bit_at_set_same w64 (get_or row (bit / 64) 0) (bit % 64) low) ∙ sym (or_right (has row b) (eqb b bit) is))
            | inr other ↦ (
                let is : eqb b bit ≡ false = ne_eqb b bit (λ e. other (ap (λ z. z % 64) e)) in
                ap (λ z. eqb (bit_at z (b % 64)) 1) read ∙ ap (λ z. eqb z 1) (bit_at_set_other w64 (get_or row (bit / 64) 0) (bit % 64) low (b % 64) other)
                ∙ ap (λ i. eqb (bit_at (get_or row i 0) (b % 64)) 1) (sym here) ∙ sym (ap (λ z. has row b || z) is ∙ or-false (has row b)))
          ])
      | inr there ↦ (
          let is : eqb b bit ≡ false = ne_eqb b bit (λ e. there (ap (λ z. z / 64) e)) in
          ap (λ z. eqb (bit_at z (b % 64)) 1) (get_or-set_other row (bit / 64) (b / 64) word 0 there) ∙ sym (ap (λ z. has row b || z) is ∙ or-false (has row b)))
    ]
