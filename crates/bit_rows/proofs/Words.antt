-- Rows, word by word.
use Rattle.std.proofs.Common.{◌≡◌, ℕ, ◌+◌, ◌-◌, ◌*◌, ◌/◌, ◌%◌, ◌^◌, ◌<◌, ◌≤◌, Bool, true, false, not, ◌&&◌, ◌||◌, eqb, List, length, get_or, min, max, arith, refl, sym, ap}
use Rattle.std.proofs.Common.{◌∙◌, inl, inr, ◌⊎◌, w64, [], ◌∷◌, ◌++◌}
use Rattle.std.proofs.lemmas.Bool.{cases_lt, cases_eq, and_from, and_left, or_right, eq-eqb, ne_eqb, both_ways}
use Rattle.std.proofs.lemmas.List.{get_or_past}
use Rattle.std.proofs.lemmas.Nat.Bits.{bit_at_or, bit_at_and, bit_at_not, bit_at-lt, bit_at-zero, bit_at_clear_same, bit_at_clear_other, bit_at-trailing_zeros}
use Rattle.std.proofs.lemmas.Nat.{and_le_l}
use Rattle.std.proofs.lemmas.List.Folds.{list_any-append}
use Rattle.std.specs.Prelude.{bit_and, bit_or}
use Rattle.std.specs.Int.{bit_at, bit_not, trailing_zeros}
use Rattle.std.specs.List.{list_any}
use Rattle.std.proofs.Math.Bool.{or-false, and_assoc}
use Rattle.bit_rows.specs.Bits.{has, outside}
use Rattle.bit_rows.proofs.Counting.{word_bits}

zero_or_one : (x : ℕ) → x < 2 → (x ≡ 0) ⊎ (x ≡ 1)
zero_or_one x lt = elim (cases_lt x 1) [ inl low ↦ inl (omega arith) | inr high ↦ inr (omega arith) ]

max_tests : (x y : ℕ) → x < 2 → y < 2 → eqb (max x y) 1 ≡ (eqb x 1 || eqb y 1)
max_tests x y lx ly = elim (zero_or_one x lx) [
  | inl a ↦ elim (zero_or_one y ly) [ inl b ↦ rw (a, b) refl | inr b ↦ rw (a, b) refl ]
  | inr a ↦ elim (zero_or_one y ly) [ inl b ↦ rw (a, b) refl | inr b ↦ rw (a, b) refl ]
]

min_tests : (x y : ℕ) → x < 2 → y < 2 → eqb (min x y) 1 ≡ (eqb x 1 && eqb y 1)
min_tests x y lx ly = elim (zero_or_one x lx) [
  | inl a ↦ elim (zero_or_one y ly) [ inl b ↦ rw (a, b) refl | inr b ↦ rw (a, b) refl ]
  | inr a ↦ elim (zero_or_one y ly) [ inl b ↦ rw (a, b) refl | inr b ↦ rw (a, b) refl ]
]

other_tests : (x : ℕ) → x < 2 → eqb (1 - x) 1 ≡ not (eqb x 1)
other_tests x lx = elim (zero_or_one x lx) [ inl a ↦ rw a refl | inr a ↦ rw a refl ]

pub has_or : (old new other : List ℕ) → ((j : ℕ) → get_or new j 0 ≡ bit_or (get_or old j 0) (get_or other j 0)) → (b : ℕ) → has new b ≡ (has old b || has other b)
has_or old new other each b =
    ap (λ w. eqb (bit_at w (b % 64)) 1) (each (b / 64)) ∙ ap (λ x. eqb x 1) (bit_at_or (get_or old (b / 64) 0) (get_or other (b / 64) 0) (b % 64))
    ∙ max_tests (bit_at (get_or old (b / 64) 0) (b % 64)) (bit_at (get_or other (b / 64) 0) (b % 64)) (bit_at-lt _ _) (bit_at-lt _ _)

pub has_and : (old new other : List ℕ) → ((j : ℕ) → get_or new j 0 ≡ bit_and (get_or old j 0) (get_or other j 0)) → (b : ℕ) → has new b ≡ (has old b && has other b)
has_and old new other each b =
    ap (λ w. eqb (bit_at w (b % 64)) 1) (each (b / 64)) ∙ ap (λ x. eqb x 1) (bit_at_and (get_or old (b / 64) 0) (get_or other (b / 64) 0) (b % 64))
    ∙ min_tests (bit_at (get_or old (b / 64) 0) (b % 64)) (bit_at (get_or other (b / 64) 0) (b % 64)) (bit_at-lt _ _) (bit_at-lt _ _)

pub has_and_not : (old new other : List ℕ) → ((j : ℕ) → get_or other j 0 < 2 ^ 64)
    → ((j : ℕ) → get_or new j 0 ≡ bit_and (get_or old j 0) (bit_not w64 (get_or other j 0))) → (b : ℕ) → has new b ≡ (has old b && not (has other b))
has_and_not old new other fit each b =
    let x : ℕ = get_or old (b / 64) 0 in
    let y : ℕ = get_or other (b / 64) 0 in
    ap (λ w. eqb (bit_at w (b % 64)) 1) (each (b / 64)) ∙ ap (λ x. eqb x 1) (bit_at_and x (bit_not w64 y) (b % 64))
    ∙ min_tests (bit_at x (b % 64)) (bit_at (bit_not w64 y) (b % 64)) (bit_at-lt _ _) (bit_at-lt _ _)
    ∙ ap (λ z. eqb (bit_at x (b % 64)) 1 && eqb z 1) (bit_at_not w64 y (b % 64) (fit (b / 64)) (omega arith))
    ∙ ap (λ z. eqb (bit_at x (b % 64)) 1 && z) (other_tests (bit_at y (b % 64)) (bit_at-lt _ _))

-- a loop that has come to i, and joins words of two rows by f
pub record AreJoined (f : ℕ → ℕ → ℕ) (old other new : List ℕ) (i : ℕ) : Type 0 where
  pub len : length new ≡ length old
  pub done : (j : ℕ) → j < i → j < length old → get_or new j 0 ≡ f (get_or old j 0) (get_or other j 0)
  pub rest : (j : ℕ) → i ≤ j → get_or new j 0 ≡ get_or old j 0

pub all_words : (f : ℕ → ℕ → ℕ) (old new other : List ℕ) (i : ℕ) → AreJoined f old other new i → length other ≡ length old → length old ≤ i → f 0 0 ≡ 0
    → (j : ℕ) → get_or new j 0 ≡ f (get_or old j 0) (get_or other j 0)
all_words f old new other i joined b past z j = elim (cases_lt j (length old)) [
  | inl lt ↦ joined.done j (omega arith) lt
  | inr over ↦
      get_or_past new j 0 (omega (arith, joined.len)) ∙ sym z ∙ ap (λ x. f x 0) (sym (get_or_past old j 0 over))
      ∙ ap (f (get_or old j 0)) (sym (get_or_past other j 0 (omega arith)))
]

-- ---- the bits of a word, one after another

abbrev rest_of : ℕ → ℕ → ℕ
rest_of left b = bit_and left (bit_not w64 (1 * 2 ^ b % 2 ^ 64))

pub smaller : (left b : ℕ) → b < 64 → bit_at left b ≡ 1 → rest_of left b < left
smaller left b lb set =
    let gone : bit_at (rest_of left b) b ≡ 0 = bit_at_clear_same w64 left b lb in
    elim (cases_eq (rest_of left b) left) [
      | inl same ↦ absurd (let both : bit_at (rest_of left b) b ≡ bit_at left b = ap (λ x. bit_at x b) same in omega arith)
      | inr other ↦ omega (arith, and_le_l left (bit_not w64 (1 * 2 ^ b % 2 ^ 64)))
    ]

pub still_of : (word left b j : ℕ) → b < 64 → j < 64 → ((i : ℕ) → i < 64 → bit_at left i ≡ 1 → bit_at word i ≡ 1) → bit_at (rest_of left b) j ≡ 1 → bit_at word j ≡ 1
still_of word left b j lb lj of set = elim (cases_eq j b) [
  | inl e ↦ absurd (let gone : bit_at (rest_of left b) b ≡ 0 = bit_at_clear_same w64 left b lb in let here : bit_at (rest_of left b) b ≡ 1 = ap (bit_at (rest_of left b)) (sym e) ∙ set in omega arith)
  | inr n ↦ of j lj (sym (bit_at_clear_other w64 left b lb j lj n) ∙ set)
]

pub listed_next : (word left place b : ℕ) (xs : List ℕ) (k : ℕ) (o : Bool) → b < 64 → bit_at left b ≡ 1 → bit_at word b ≡ 1 →
    list_any (λ x. eqb x k) xs ≡ (o || (eqb (k / 64) place && (eqb (bit_at word (k % 64)) 1 && not (eqb (bit_at left (k % 64)) 1)))) →
    list_any (λ x. eqb x k) (xs ++ (64 * place + b) ∷ []) ≡ (o || (eqb (k / 64) place && (eqb (bit_at word (k % 64)) 1 && not (eqb (bit_at (rest_of left b) (k % 64)) 1))))
listed_next word left place b xs k o lb set in_word before =
    list_any-append (λ x. eqb x k) xs ((64 * place + b) ∷ []) ∙ ap (λ z. z || (eqb (64 * place + b) k || false)) before
    ∙ ap (λ z. (o || old) || z) (or-false (eqb (64 * place + b) k)) ∙ elim (cases_eq k (64 * place + b)) [
      | inl e ↦ (
          let word_is : k / 64 ≡ place = omega arith in
          let bit_is : k % 64 ≡ b = omega arith in
          let test : eqb (64 * place + b) k ≡ true = eq-eqb _ _ (sym e) in
          let w : eqb (bit_at word (k % 64)) 1 ≡ true = eq-eqb _ _ (ap (bit_at word) bit_is ∙ in_word) in
          let l : eqb (bit_at (rest_of left b) (k % 64)) 1 ≡ false = ap (λ z. eqb z 1) (ap (bit_at (rest_of left b)) bit_is ∙ bit_at_clear_same w64 left b lb) in
          or_right (o || old) _ test ∙ sym (or_right o _ (and_from _ _ (eq-eqb _ _ word_is) (and_from _ _ w (ap not l)))))
      | inr n ↦ ap (λ z. (o || old) || z) (ne_eqb _ _ (λ e. n (sym e))) ∙ or-false (o || old) ∙ ap (λ z. o || z) (elim (cases_eq (k / 64) place) [
        | inl e ↦ (
            let apart : k % 64 ≡ b → ⊥ = λ h. n (omega arith) in
            ap (λ z. eqb (k / 64) place && (eqb (bit_at word (k % 64)) 1 && not (eqb z 1))) (sym (bit_at_clear_other w64 left b lb (k % 64) (omega arith) apart)))
        | inr d ↦ and_left _ _ (ne_eqb _ _ d) ∙ sym (and_left _ _ (ne_eqb _ _ d))
      ])
    ]
  where
    old : Bool
    old = eqb (k / 64) place && (eqb (bit_at word (k % 64)) 1 && not (eqb (bit_at left (k % 64)) 1))

-- ---- three rows

pub outside_bit : (x y z i : ℕ) → z < 2 ^ 64 → i < 64 → eqb (bit_at (outside x y z) i) 1 ≡ (eqb (bit_at x i) 1 && (eqb (bit_at y i) 1 && not (eqb (bit_at z i) 1)))
outside_bit x y z i fit li =
    ap (λ w. eqb w 1) (bit_at_and (bit_and x y) (bit_not w64 z) i) ∙ min_tests (bit_at (bit_and x y) i) (bit_at (bit_not w64 z) i) (bit_at-lt _ _) (bit_at-lt _ _)
    ∙ ap (λ w. eqb w 1 && eqb (bit_at (bit_not w64 z) i) 1) (bit_at_and x y i) ∙ ap (λ w. w && eqb (bit_at (bit_not w64 z) i) 1) (min_tests (bit_at x i) (bit_at y i) (bit_at-lt _ _) (bit_at-lt _ _))
    ∙ ap (λ w. (eqb (bit_at x i) 1 && eqb (bit_at y i) 1) && eqb w 1) (bit_at_not w64 z i fit li) ∙ ap (λ w. (eqb (bit_at x i) 1 && eqb (bit_at y i) 1) && w) (other_tests (bit_at z i) (bit_at-lt _ _))
    ∙ and_assoc (eqb (bit_at x i) 1) (eqb (bit_at y i) 1) (not (eqb (bit_at z i) 1))

pub outside_fits : (a b c : List ℕ) (i : ℕ) → get_or a i 0 < 2 ^ 64 → outside (get_or a i 0) (get_or b i 0) (get_or c i 0) < 2 ^ 64
outside_fits a b c i fit = omega (arith, fit, and_le_l (bit_and (get_or a i 0) (get_or b i 0)) (bit_not w64 (get_or c i 0)), and_le_l (get_or a i 0) (get_or b i 0))

-- the bits of three rows that stand in one word
pub outside_bits : (a b c : List ℕ) (i : ℕ) → get_or c i 0 < 2 ^ 64 → (k : ℕ) → k < 64
    → (has a (64 * i + k) && (has b (64 * i + k) && not (has c (64 * i + k))))
    ≡ eqb (bit_at (outside (get_or a i 0) (get_or b i 0) (get_or c i 0)) k) 1
outside_bits a b c i fit k lk =
    ap (λ z. z && (has b (64 * i + k) && not (has c (64 * i + k)))) (word_bits a i k lk) ∙ ap (λ z. eqb (bit_at (get_or a i 0) k) 1 && (z && not (has c (64 * i + k)))) (word_bits b i k lk)
    ∙ ap (λ z. eqb (bit_at (get_or a i 0) k) 1 && (eqb (bit_at (get_or b i 0) k) 1 && not z)) (word_bits c i k lk) ∙ sym (outside_bit (get_or a i 0) (get_or b i 0) (get_or c i 0) k fit lk)

pub none_outside : (a b c : List ℕ) (i : ℕ) → length a ≤ i → ((j : ℕ) → get_or c j 0 < 2 ^ 64)
    → ((j : ℕ) → j < i → outside (get_or a j 0) (get_or b j 0) (get_or c j 0) ≡ 0) → (k : ℕ) → (has a k && (has b k && not (has c k))) ≡ false
none_outside a b c i le fit none k = elim (cases_lt (k / 64) i) [
  | inl lt ↦
      sym (outside_bit (get_or a (k / 64) 0) (get_or b (k / 64) 0) (get_or c (k / 64) 0) (k % 64) (fit (k / 64)) (omega arith))
      ∙ ap (λ w. eqb (bit_at w (k % 64)) 1) (none (k / 64) lt) ∙ ap (λ x. eqb x 1) (bit_at-zero (k % 64))
  | inr over ↦ and_left _ _ (ap (λ w. eqb (bit_at w (k % 64)) 1) (get_or_past a (k / 64) 0 (omega arith)) ∙ ap (λ x. eqb x 1) (bit_at-zero (k % 64)))
]

pub some_outside : (a b c : List ℕ) (i : ℕ) → ((j : ℕ) → get_or a j 0 < 2 ^ 64) → ((j : ℕ) → get_or c j 0 < 2 ^ 64)
    → 0 < outside (get_or a i 0) (get_or b i 0) (get_or c i 0) → ((k : ℕ) → (has a k && (has b k && not (has c k))) ≡ false) → ⊥
some_outside a b c i fita fit pos h =
    let w : ℕ = outside (get_or a i 0) (get_or b i 0) (get_or c i 0) in
    let less : w < 2 ^ 64 = omega (arith, fita i, and_le_l (bit_and (get_or a i 0) (get_or b i 0)) (bit_not w64 (get_or c i 0)), and_le_l (get_or a i 0) (get_or b i 0)) in
    let low = bit_at-trailing_zeros w64 w pos less in
    let j : ℕ = trailing_zeros w64 w in
    let k : ℕ = 64 * i + j in
    let word : k / 64 ≡ i = omega (arith, low.0) in
    let bit : k % 64 ≡ j = omega (arith, low.0) in
    let here : (has a k && (has b k && not (has c k))) ≡ true =
    ap (λ z. eqb (bit_at (get_or a z 0) (k % 64)) 1 && (eqb (bit_at (get_or b z 0) (k % 64)) 1 && not (eqb (bit_at (get_or c z 0) (k % 64)) 1))) word
    ∙ ap (λ z. eqb (bit_at (get_or a i 0) z) 1 && (eqb (bit_at (get_or b i 0) z) 1 && not (eqb (bit_at (get_or c i 0) z) 1))) bit
    ∙ sym (outside_bit (get_or a i 0) (get_or b i 0) (get_or c i 0) j (fit i) low.0) ∙ eq-eqb _ _ low.1 in
    both_ways _ (h k) here

-- no bit outside, no word
pub clear_word : (a b c : List ℕ) (i : ℕ) → ((j : ℕ) → get_or a j 0 < 2 ^ 64) → ((j : ℕ) → get_or c j 0 < 2 ^ 64)
    → ((k : ℕ) → (has a k && (has b k && not (has c k))) ≡ false) → outside (get_or a i 0) (get_or b i 0) (get_or c i 0) ≡ 0
clear_word a b c i fita fit h = elim (cases_eq (outside (get_or a i 0) (get_or b i 0) (get_or c i 0)) 0) [
  | inl none ↦ none
  | inr some ↦ absurd (some_outside a b c i fita fit (omega (arith, some)) h)
]
