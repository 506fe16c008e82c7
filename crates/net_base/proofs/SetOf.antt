-- The set of the locations that pass a test.
use Rattle.std.proofs.Common.{◌≡◌, ℕ, zero, suc, ◌+◌, ◌-◌, ◌*◌, ◌/◌, ◌%◌, ◌^◌, ◌<◌, ◌≤◌, Bool, true, false, List, [], ◌∷◌, ◌++◌, length, get_or, set, take, refl, sym, ap}
use Rattle.std.proofs.Common.{◌∙◌, arith, inl, inr, add-zero}
use Rattle.std.proofs.lemmas.Nat.{one_shl}
use Rattle.std.proofs.Math.Nat.{lt_of_lt_of_le, pow-le-pow_right, pow-suc}
use Rattle.std.specs.Prelude.{◌==◌, if◌then◌else◌}
use Rattle.std.specs.Int.{bit_at}
use Rattle.std.proofs.lemmas.Bool.{cases_lt}
use Rattle.std.proofs.lemmas.List.{get_or_past, take_more_set, take_all}
use Rattle.std.proofs.lemmas.Nat.Bits.{bit_at_cat_low, bit_at_cat_high, bit_at-zero}
use Rattle.net_base.specs.Sets.{holds, word_of, words_of, set_of}

bit : Bool → ℕ
bit true = 1
bit false = 0

times : (b : Bool) (m : ℕ) → (if b then m else 0) ≡ bit b * m
unfolding bit
times true m = omega arith
times false m = omega arith

cat : (p : ℕ → Bool) (k n : ℕ) → word_of p k (suc n) ≡ bit (p (k + n)) * 2 ^ n + word_of p k n
unfolding word_of
cat p k n = omega (arith, times (p (k + n)) (2 ^ n))

at_most : (b : Bool) (m : ℕ) → (if b then m else 0) ≤ m
at_most true m = omega arith
at_most false m = omega arith

pub word_fits : (p : ℕ → Bool) (k n : ℕ) → word_of p k n < 2 ^ n
unfolding word_of
word_fits p k zero = omega arith
word_fits p k (suc n) = omega (arith, word_fits p k n, at_most (p (k + n)) (2 ^ n), pow-suc 2 n)

bit_even : (b : Bool) → bit_at (bit b) 0 ≡ bit b
unfolding bit
bit_even true = refl
bit_even false = refl

bit_at-word : (p : ℕ → Bool) (k n j : ℕ) → j < n → bit_at (word_of p k n) j ≡ bit (p (k + j))
bit_at-word p k zero j within = absurd (omega arith)
bit_at-word p k (suc n) j within = elim (cases_lt j n) [
  | inl low ↦ ap (λ w. bit_at w j) (cat p k n) ∙ bit_at_cat_low (bit (p (k + n))) n (word_of p k n) j low ∙ bit_at-word p k n j low
  | inr high ↦
      let last : j ≡ n = omega arith in
      let lowest : j - n ≡ 0 = omega arith in
      ap (λ w. bit_at w j) (cat p k n) ∙ bit_at_cat_high (bit (p (k + n))) n (word_of p k n) j (word_fits p k n) high
      ∙ ap (bit_at (bit (p (k + n)))) lowest ∙ bit_even (p (k + n)) ∙ ap (λ m. bit (p (k + m))) (sym last)
]

pub get_or-words : (p : ℕ → Bool) (k n i : ℕ) → i < n → get_or (words_of p k n) i 0 ≡ word_of p (k + 64 * i) 64
unfolding words_of
get_or-words p k zero i within = absurd (omega arith)
get_or-words p k (suc n) zero within = ap (λ m. word_of p m 64) (omega arith)
get_or-words p k (suc n) (suc i) within = get_or-words p (k + 64) n i (omega arith) ∙ ap (λ m. word_of p m 64) (omega arith)

pub length-words : (p : ℕ → Bool) (k n : ℕ) → length (words_of p k n) ≡ n
unfolding words_of
length-words p k zero = refl
length-words p k (suc n) = ap suc (length-words p (k + 64) n)

is_set : (b : Bool) → (bit b == 1) ≡ b
unfolding bit
is_set true = refl
is_set false = refl

-- a location below 768 is in the set where it passes the test
pub holds-set_of : (p : ℕ → Bool) (l : ℕ) → l < 768 → holds (set_of p) l ≡ p l
unfolding set_of
holds-set_of p l low =
    let number : 0 + 64 * (l / 64) + l % 64 ≡ l = omega arith in
    ap (λ w. bit_at w (l % 64) == 1) (get_or-words p 0 12 (l / 64) (omega arith))
    ∙ ap (λ b. b == 1) (bit_at-word p (0 + 64 * (l / 64)) 64 (l % 64) (omega arith))
    ∙ is_set (p (0 + 64 * (l / 64) + l % 64)) ∙ ap p number

-- and no other one is
pub holds-set_of_past : (p : ℕ → Bool) (l : ℕ) → 768 ≤ l → holds (set_of p) l ≡ false
unfolding set_of
holds-set_of_past p l high =
    ap (λ w. bit_at w (l % 64) == 1) (get_or_past (words_of p 0 12) (l / 64) 0 (omega (arith, length-words p 0 12)))
    ∙ ap (λ b. b == 1) (bit_at-zero (l % 64))

-- one more word
words_snoc : (p : ℕ → Bool) (k n : ℕ) → words_of p k (suc n) ≡ words_of p k n ++ word_of p (k + 64 * n) 64 ∷ []
unfolding words_of
words_snoc p k zero = ap (λ m. word_of p m 64 ∷ []) (omega arith)
words_snoc p k (suc n) =
    ap (λ ws. word_of p k 64 ∷ ws) (words_snoc p (k + 64) n ∙ ap (λ m. words_of p (k + 64) n ++ word_of p m 64 ∷ []) (omega arith))

-- a loop that writes the words in turn
pub words_next : (p : ℕ → Bool) (ws : List ℕ) (i w : ℕ) → length ws ≡ 12 → i < 12 → take i ws ≡ words_of p 0 i → w ≡ word_of p (64 * i) 64
    → take (i + 1) (set ws i w) ≡ words_of p 0 (i + 1)
words_next p ws i w size low before is =
    take_more_set ws i w (omega (arith, size))
    ∙ ap (λ vs. vs ++ w ∷ []) before ∙ ap (λ v. words_of p 0 i ++ v ∷ []) (is ∙ ap (λ m. word_of p m 64) (omega arith))
    ∙ sym (words_snoc p 0 i) ∙ ap (words_of p 0) (omega arith)

pub words_done : (p : ℕ → Bool) (ws : List ℕ) (i : ℕ) → length ws ≡ 12 → 12 ≤ i → i ≤ 12 → take i ws ≡ words_of p 0 i → record { words = ws } ≡ set_of p
unfolding set_of
words_done p ws i size low high before =
    let all : i ≡ 12 = omega arith in
    ap (λ (vs : List ℕ). record { words = vs }) (sym (take_all i ws (omega (arith, size))) ∙ before ∙ ap (words_of p 0) all)

-- a loop that adds the bits in turn
one_more : (p : ℕ → Bool) (k n : ℕ) → word_of p k (n + 1) ≡ word_of p k n + (if p (k + n) then 2 ^ n else 0)
unfolding word_of
one_more p k n = let next : n + 1 ≡ suc n = omega arith in ap (word_of p k) next

pub word_met : (p : ℕ → Bool) (k n w : ℕ) → n < 64 → w ≡ word_of p k n → p (k + n) ≡ true → w + 1 * 2 ^ n % 2 ^ 64 ≡ word_of p k (n + 1)
word_met p k n w low is met =
    ap (λ m. w + m) (one_shl n 64 low) ∙ ap (λ m. m + 2 ^ n) is ∙ sym (one_more p k n ∙ ap (λ b. word_of p k n + (if b then 2 ^ n else 0)) met)

pub word_missed : (p : ℕ → Bool) (k n w : ℕ) → w ≡ word_of p k n → p (k + n) ≡ false → w ≡ word_of p k (n + 1)
word_missed p k n w is missed =
    is ∙ sym (one_more p k n ∙ ap (λ b. word_of p k n + (if b then 2 ^ n else 0)) missed ∙ add-zero (word_of p k n))

-- they fit
pub word_room : (p : ℕ → Bool) (k n w : ℕ) → n < 64 → w ≡ word_of p k n → p (k + n) ≡ true → w + 1 * 2 ^ n % 2 ^ 64 < 2 ^ 64
word_room p k n w low is met =
    rw (word_met p k n w low is met) (lt_of_lt_of_le (word_fits p k (n + 1)) (pow-le-pow_right {n = 2} (omega arith) {i = n + 1} {j = 64} (omega arith)))

pub no_word : (p : ℕ → Bool) (k : ℕ) → 0 ≡ word_of p k 0
unfolding word_of
no_word p k = refl

pub no_words : (p : ℕ → Bool) (k : ℕ) → [] ≡ words_of p k 0
unfolding words_of
no_words p k = refl
