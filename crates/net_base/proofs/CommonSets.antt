-- What the sets made word by word hold.
use Rattle.std.proofs.Common.{◌≡◌, ◌==◌, ℕ, zero, suc, ◌+◌, ◌/◌, ◌%◌, min, ◌<◌, List, [], ◌∷◌, get_or, false, not, ◌&&◌, refl, sym, ap, ◌∙◌, arith}
use Rattle.std.specs.Prelude.{bit_and, bit_xor}
use Rattle.std.specs.Int.{bit_at}
use Rattle.std.proofs.lemmas.Nat.Bits.{bit_at-zero, bit_at_and, bit_at_xor, bit_at-lt}
use Rattle.net_base.specs.declared.loc.LocSet.{LocSet}
use Rattle.net_base.specs.Sets.{holds}
use Rattle.net_base.specs.SetOperations.{common, common_words, outside, outside_words}
use Rattle.std.proofs.Math.Bool.{and-false, and-true}

min_test : (m n : ℕ) → m < 2 → n < 2 → (min m n == 1) ≡ ((m == 1) && (n == 1))
min_test zero zero p q = refl
min_test zero (suc zero) p q = refl
min_test zero (suc (suc n)) p q = absurd (omega arith)
min_test (suc zero) zero p q = refl
min_test (suc zero) (suc zero) p q = refl
min_test (suc zero) (suc (suc n)) p q = absurd (omega arith)
min_test (suc (suc m)) n p q = absurd (omega arith)

outside_test : (m n : ℕ) → m < 2 → n < 2 → (min m ((m + n) % 2) == 1) ≡ ((m == 1) && not (n == 1))
outside_test zero zero p q = refl
outside_test zero (suc zero) p q = refl
outside_test zero (suc (suc n)) p q = absurd (omega arith)
outside_test (suc zero) zero p q = refl
outside_test (suc zero) (suc zero) p q = refl
outside_test (suc zero) (suc (suc n)) p q = absurd (omega arith)
outside_test (suc (suc m)) n p q = absurd (omega arith)

bit-common : (v w i : ℕ) → (bit_at (bit_and v w) i == 1) ≡ ((bit_at v i == 1) && (bit_at w i == 1))
bit-common v w i = ap (λ n. n == 1) (bit_at_and v w i) ∙ min_test (bit_at v i) (bit_at w i) (bit_at-lt v i) (bit_at-lt w i)

bit-outside : (v w i : ℕ) → (bit_at (bit_and v (bit_xor v w)) i == 1) ≡ ((bit_at v i == 1) && not (bit_at w i == 1))
bit-outside v w i =
    ap (λ n. n == 1) (bit_at_and v (bit_xor v w) i ∙ ap (min (bit_at v i)) (bit_at_xor v w i))
    ∙ outside_test (bit_at v i) (bit_at w i) (bit_at-lt v i) (bit_at-lt w i)

no_bit : (i : ℕ) → (bit_at 0 i == 1) ≡ false
no_bit i = ap (λ n. n == 1) (bit_at-zero i)

get_or-nothing : (k : ℕ) → get_or {A = ℕ} [] k 0 ≡ 0
get_or-nothing zero = refl
get_or-nothing (suc k) = refl

common-at : (vs ws : List ℕ) (k i : ℕ) → (bit_at (get_or (common_words vs ws) k 0) i == 1) ≡ ((bit_at (get_or vs k 0) i == 1) && (bit_at (get_or ws k 0) i == 1))
common-at [] ws k i =
    ap (λ n. bit_at n i == 1) (get_or-nothing k) ∙ no_bit i
    ∙ sym (ap (λ n. (bit_at n i == 1) && (bit_at (get_or ws k 0) i == 1)) (get_or-nothing k) ∙ ap (λ b. b && (bit_at (get_or ws k 0) i == 1)) (no_bit i))
common-at (v ∷ vs) [] k i =
    ap (λ n. bit_at n i == 1) (get_or-nothing k) ∙ no_bit i
    ∙ sym (and-false (bit_at (get_or (v ∷ vs) k 0) i == 1))
    ∙ sym (ap (λ n. (bit_at (get_or (v ∷ vs) k 0) i == 1) && (bit_at n i == 1)) (get_or-nothing k) ∙ ap (λ b. (bit_at (get_or (v ∷ vs) k 0) i == 1) && b) (no_bit i))
common-at (v ∷ vs) (w ∷ ws) zero i = bit-common v w i
common-at (v ∷ vs) (w ∷ ws) (suc k) i = common-at vs ws k i

outside-at : (vs ws : List ℕ) (k i : ℕ) → (bit_at (get_or (outside_words vs ws) k 0) i == 1) ≡ ((bit_at (get_or vs k 0) i == 1) && not (bit_at (get_or ws k 0) i == 1))
outside-at [] ws k i =
    ap (λ n. bit_at n i == 1) (get_or-nothing k) ∙ no_bit i
    ∙ sym (ap (λ n. (bit_at n i == 1) && not (bit_at (get_or ws k 0) i == 1)) (get_or-nothing k) ∙ ap (λ b. b && not (bit_at (get_or ws k 0) i == 1)) (no_bit i))
outside-at (v ∷ vs) [] k i =
    sym (and-true (bit_at (get_or (v ∷ vs) k 0) i == 1))
    ∙ sym (ap (λ n. (bit_at (get_or (v ∷ vs) k 0) i == 1) && not (bit_at n i == 1)) (get_or-nothing k) ∙ ap (λ b. (bit_at (get_or (v ∷ vs) k 0) i == 1) && not b) (no_bit i))
outside-at (v ∷ vs) (w ∷ ws) zero i = bit-outside v w i
outside-at (v ∷ vs) (w ∷ ws) (suc k) i = outside-at vs ws k i

pub holds-common : (s t : LocSet) (l : ℕ) → holds (common s t) l ≡ (holds s l && holds t l)
holds-common s t l = common-at s.words t.words (l / 64) (l % 64)

pub holds-outside : (s t : LocSet) (l : ℕ) → holds (outside s t) l ≡ (holds s l && not (holds t l))
holds-outside s t l = outside-at s.words t.words (l / 64) (l % 64)
