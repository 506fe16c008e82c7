-- A set with one more location.
use Rattle.std.proofs.Common.{◌≡◌, ◌≢◌, ℕ, ◌*◌, ◌/◌, ◌%◌, ◌^◌, ◌<◌, List, length, sym, ap, ◌∙◌, arith, inl, inr}
use Rattle.std.proofs.Math.ListN.{get_or, set}
use Rattle.std.specs.Prelude.{◌==◌, ◌||◌, bit_or}
use Rattle.std.specs.Int.{bit_at, w64}
use Rattle.std.proofs.lemmas.Bool.{eq-eqb, or_right}
use Rattle.std.proofs.lemmas.Bool.Decides.{eqb_tells}
use Rattle.std.proofs.lemmas.Nat.Bits.{bit_at_set_same, bit_at_set_other}
use Rattle.std.proofs.lemmas.List.{get_or-set_same, get_or-set_other}
use Rattle.list_law.proofs.Truth.{or_failed}

-- the words with the bit of p set
set_words : List ℕ → ℕ → List ℕ
set_words ws p = set ws (p / 64) (bit_or (get_or ws (p / 64) 0) (1 * 2 ^ (p % 64) % 2 ^ 64))

has : List ℕ → ℕ → ℕ
has ws l = bit_at (get_or ws (l / 64) 0) (l % 64)

same_place : (ws : List ℕ) (p : ℕ) → p < 768 → length ws ≡ 12 → has (set_words ws p) p ≡ 1
unfolding has set_words
same_place ws p low size =
    rw (get_or-set_same ws (p / 64) (bit_or (get_or ws (p / 64) 0) (1 * 2 ^ (p % 64) % 2 ^ 64)) 0 (omega arith))
    (bit_at_set_same w64 (get_or ws (p / 64) 0) (p % 64) (omega arith))

other_bit : (ws : List ℕ) (p l : ℕ) → p < 768 → length ws ≡ 12 → l / 64 ≡ p / 64 → l ≢ p → has (set_words ws p) l ≡ has ws l
unfolding has set_words
other_bit ws p l low size word apart =
    rw (word, get_or-set_same ws (p / 64) (bit_or (get_or ws (p / 64) 0) (1 * 2 ^ (p % 64) % 2 ^ 64)) 0 (omega arith))
    (bit_at_set_other w64 (get_or ws (p / 64) 0) (p % 64) (omega arith) (l % 64) (λ bit. apart (omega (arith, bit, word))))

other_word : (ws : List ℕ) (p l : ℕ) → l / 64 ≢ p / 64 → has (set_words ws p) l ≡ has ws l
unfolding has set_words
other_word ws p l word = ap (λ w. bit_at w (l % 64)) (get_or-set_other ws (p / 64) (l / 64) _ 0 word)

other_place : (ws : List ℕ) (p l : ℕ) → p < 768 → length ws ≡ 12 → l ≢ p → has (set_words ws p) l ≡ has ws l
other_place ws p l low size apart =
    elim (eqb_tells (l / 64) (p / 64)) [ inl t ↦ other_bit ws p l low size t.1 apart | inr t ↦ other_word ws p l t.1 ]

-- The bits after the bit of p is set: those before it and p's own.
pub has-set_words : (ws : List ℕ) (p l : ℕ) → p < 768 → length ws ≡ 12
    → (bit_at (get_or (set ws (p / 64) (bit_or (get_or ws (p / 64) 0) (1 * 2 ^ (p % 64) % 2 ^ 64))) (l / 64) 0) (l % 64) == 1)
    ≡ ((bit_at (get_or ws (l / 64) 0) (l % 64) == 1) || (l == p))
unfolding has set_words
has-set_words ws p l low size = elim (eqb_tells l p) [
  | inl t ↦ eq-eqb _ 1 (ap (has (set_words ws p)) t.1 ∙ same_place ws p low size) ∙ sym (or_right (has ws l == 1) (l == p) t.0)
  | inr t ↦ ap (λ n. n == 1) (other_place ws p l low size t.1) ∙ sym (or_failed (has ws l == 1) (l == p) t.0)
]
