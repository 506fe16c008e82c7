-- Sets of locations that are the same.
use Rattle.std.proofs.Common.{◌≡◌, ℕ, zero, suc, ◌+◌, ◌*◌, ◌/◌, ◌%◌, ◌^◌, ◌<◌, ◌≤◌, max, List, [], ◌∷◌, length, get_or, set, Bool, true, false, refl, sym, ap, ◌∙◌, subst, arith, inl, inr}
use Rattle.std.proofs.Math.Pow.{pow-lt}
use Rattle.std.specs.Prelude.{◌==◌, ◌||◌, map, bit_or, slice_index, replicate}
use Rattle.std.specs.List.{list_all, range_with_len}
use Rattle.std.specs.Int.{bit_at}
use Rattle.std.proofs.lemmas.Bool.{eq-eqb, eqb-true, and_parts, cases_eq, cases_lt}
use Rattle.std.proofs.lemmas.Grind.{same_number_lists}
use Rattle.std.proofs.lemmas.List.{get_or-set_same, get_or-set_other, length-set, get_or_past, get_or-replicate}
use Rattle.std.proofs.lemmas.List.FromFn.{get_or-map-range_with_len}
use Rattle.std.proofs.lemmas.Nat.{or_lt, one_shl}
use Rattle.std.proofs.lemmas.Nat.Bits.{bit_at_or, bit_at-lt, bit_at-zero, same_from_bits_below}
use Rattle.net_base.specs.declared.loc.LocSet.{LocSet}
use Rattle.net_base.specs.Sets.{IsWords, holds, set_of, words_of}
use Rattle.net_base.proofs.SetLemmas.{has-set_words}
use Rattle.net_base.specs.SetOperations.{no_location, with_location, union_of}
use Rattle.net_base.proofs.SetOf.{get_or-words, length-words, word_fits}

same_bits : (a b : ℕ) → a < 2 → b < 2 → (a == 1) ≡ (b == 1) → a ≡ b
same_bits a b low low' e = elim (cases_eq a 1) [
  | inl one ↦ one ∙ sym (eqb-true b 1 (sym e ∙ eq-eqb a 1 one))
  | inr other ↦ elim (cases_eq b 1) [
    | inl one ↦ absurd (other (eqb-true a 1 (e ∙ eq-eqb b 1 one)))
    | inr other' ↦ omega (arith, other, other', low, low')
  ]
]

-- sets of the same locations are the same
pub same_sets : (s t : LocSet) → IsWords s → IsWords t → ((l : ℕ) → l < 768 → holds s l ≡ holds t l) → s ≡ t
same_sets s t a b same =
    ap (λ (w : List ℕ). let x : LocSet = record { words = w } in x)
    (same_number_lists s.words t.words (a.size ∙ sym b.size)
    (λ k within. same_from_bits_below 64 (slice_index s.words k) (slice_index t.words k) (a.fit k) (b.fit k) (λ j low. bit k (omega (arith, within, a.size)) j low))) where
      bit : (k : ℕ) → k < 12 → (j : ℕ) → j < 64 → bit_at (slice_index s.words k) j ≡ bit_at (slice_index t.words k) j
      bit k within j low =
          let place : (64 * k + j) / 64 ≡ k = omega arith in
          let rest : (64 * k + j) % 64 ≡ j = omega arith in
          let here : holds s (64 * k + j) ≡ holds t (64 * k + j) = same (64 * k + j) (omega arith) in
          same_bits (bit_at (slice_index s.words k) j) (bit_at (slice_index t.words k) j) (bit_at-lt (slice_index s.words k) j) (bit_at-lt (slice_index t.words k) j)
          (subst (λ (x : ℕ). (bit_at (slice_index s.words x) j == 1) ≡ (bit_at (slice_index t.words x) j == 1)) place
          (subst (λ (y : ℕ). (bit_at (slice_index s.words ((64 * k + j) / 64)) y == 1) ≡ (bit_at (slice_index t.words ((64 * k + j) / 64)) y == 1)) rest here))

-- no location
pub IsWords-none : IsWords no_location
IsWords-none = record { size = refl; fit = λ i. zeros i } where
  zeros : (i : ℕ) → slice_index (replicate 12 0) i < 2 ^ 64
  zeros i = elim (cases_lt i 12) [
    | inl low ↦ rw (get_or-replicate {A = ℕ} 12 i 0 0 low) (omega arith)
    | inr high ↦ rw (get_or_past {X = ℕ} (replicate 12 0) i 0 (omega (arith, high))) (omega arith)
  ]

pub holds-none : (l : ℕ) → l < 768 → holds no_location l ≡ false
holds-none l low = let k : l / 64 < 12 = omega (arith, low) in ap (λ (w : ℕ). bit_at w (l % 64) == 1) (get_or-replicate {A = ℕ} 12 (l / 64) 0 0 k) ∙ ap (λ (b : ℕ). b == 1) (bit_at-zero (l % 64))

-- one location more
pub IsWords-with : (s : LocSet) (l : ℕ) → l < 768 → IsWords s → IsWords (with_location s l)
IsWords-with s l low is = record { size = length-set s.words (l / 64) _ ∙ is.size; fit = fits } where
  word : ℕ
  word = bit_or (slice_index s.words (l / 64)) (2 ^ (l % 64))

  fits : (i : ℕ) → slice_index (set s.words (l / 64) word) i < 2 ^ 64
  fits i = elim (cases_eq i (l / 64)) [
    | inl same ↦
        rw (same, get_or-set_same s.words (l / 64) word 0 (omega (arith, low, is.size)))
        (or_lt 64 (slice_index s.words (l / 64)) (2 ^ (l % 64)) (is.fit (l / 64)) (let p : l % 64 < 64 = omega arith in pow-lt p))
    | inr other ↦ rw (get_or-set_other s.words (l / 64) i word 0 other) (is.fit i)
  ]

pub holds-one_more : (s : LocSet) (l m : ℕ) → l < 768 → length s.words ≡ 12 → holds (with_location s l) m ≡ (holds s m || m == l)
holds-one_more s l m low size =
    let one : 1 * 2 ^ (l % 64) % 2 ^ 64 ≡ 2 ^ (l % 64) = one_shl (l % 64) 64 (omega arith) in
    subst (λ (p : ℕ). (bit_at (get_or (set s.words (l / 64) (bit_or (get_or s.words (l / 64) 0) p)) (m / 64) 0) (m % 64) == 1) ≡ (holds s m || m == l)) one (has-set_words s.words l m low size)

pub holds-with : (s : LocSet) (l m : ℕ) → l < 768 → IsWords s → holds (with_location s l) m ≡ (holds s m || m == l)
holds-with s l m low is = holds-one_more s l m low is.size

-- the locations of both
or_one : (a b : ℕ) → a < 2 → b < 2 → (max a b == 1) ≡ ((a == 1) || (b == 1))
or_one zero zero low low' = refl
or_one zero (suc b) low low' = let e : b ≡ 0 = omega (arith, low') in rw e refl
or_one (suc a) zero low low' = let e : a ≡ 0 = omega (arith, low) in rw e refl
or_one (suc a) (suc b) low low' = let e : a ≡ 0 = omega (arith, low) in let d : b ≡ 0 = omega (arith, low') in rw (e, d) refl

module _ (s t : LocSet) where
  word_both : (k : ℕ) → k < 12 → slice_index (union_of s t).words k ≡ bit_or (slice_index s.words k) (slice_index t.words k)
  word_both k within = get_or-map-range_with_len (λ (i : ℕ). bit_or (slice_index s.words i) (slice_index t.words i)) 0 12 k k 0 within (omega arith)

  pub IsWords-union : IsWords s → IsWords t → IsWords (union_of s t)
  IsWords-union a b = record { size = refl; fit = fits } where
    fits : (i : ℕ) → slice_index (union_of s t).words i < 2 ^ 64
    fits i = elim (cases_lt i 12) [
      | inl low ↦ rw (word_both i low) (or_lt 64 (slice_index s.words i) (slice_index t.words i) (a.fit i) (b.fit i))
      | inr high ↦ rw (get_or_past {X = ℕ} (union_of s t).words i 0 (omega (arith, high))) (omega arith)
    ]

  pub holds-union : (l : ℕ) → l < 768 → holds (union_of s t) l ≡ (holds s l || holds t l)
  holds-union l low =
      let k : l / 64 < 12 = omega (arith, low) in
      ap (λ (w : ℕ). bit_at w (l % 64) == 1) (word_both (l / 64) k) ∙ ap (λ (b : ℕ). b == 1) (bit_at_or (slice_index s.words (l / 64)) (slice_index t.words (l / 64)) (l % 64))
      ∙ or_one (bit_at (slice_index s.words (l / 64)) (l % 64)) (bit_at (slice_index t.words (l / 64)) (l % 64)) (bit_at-lt _ _) (bit_at-lt _ _)

-- twelve words are given by what they are
pub same_words : (s t ws : List ℕ) → length ws ≡ 12 → ((k : ℕ) → k < 12 → slice_index ws k ≡ bit_or (slice_index s k) (slice_index t k))
    → record { words = ws } ≡ union_of (record { words = s }) (record { words = t })
same_words s t ws size each =
    let word = λ (i : ℕ). bit_or (slice_index s i) (slice_index t i) in
    ap (λ (w : List ℕ). let x : LocSet = record { words = w } in x)
    (same_number_lists ws (map word (range_with_len 0 12)) size (λ k lt. each k (omega (arith, size)) ∙ sym (get_or-map-range_with_len word 0 12 k k 0 (omega (arith, size)) (omega arith))))

-- no set holds a location from 768 on
pub holds_past : (s : LocSet) (l : ℕ) → 64 * length s.words ≤ l → holds s l ≡ false
holds_past s l high =
    ap (λ w. bit_at w (l % 64) == 1) (get_or_past s.words (l / 64) 0 (omega arith)) ∙ ap (λ b. b == 1) (bit_at-zero (l % 64))

pub holds-either : (s t : LocSet) → length s.words ≡ 12 → length t.words ≡ 12 → (l : ℕ) → holds (union_of s t) l ≡ (holds s l || holds t l)
holds-either s t size size' l = elim (cases_lt l 768) [
  | inl low ↦ holds-union s t l low
  | inr high ↦ holds_past (union_of s t) l (omega (arith, high)) ∙ sym (ap (λ (b : Bool). b || holds t l) (holds_past s l (omega (arith, high, size))) ∙ holds_past t l (omega (arith, high, size')))
]

-- a set without a bit holds nothing
get_or-zeros : (ws : List ℕ) (k : ℕ) → list_all (λ w. w == 0) ws ≡ true → get_or ws k 0 ≡ 0
get_or-zeros [] zero h = refl
get_or-zeros [] (suc k) h = refl
get_or-zeros (w ∷ ws) zero h = eqb-true w 0 (and_parts (w == 0) (list_all (λ w. w == 0) ws) h).0
get_or-zeros (w ∷ ws) (suc k) h = get_or-zeros ws k (and_parts (w == 0) (list_all (λ w. w == 0) ws) h).1

pub holds-zeros : (s : LocSet) (x : ℕ) → list_all (λ w. w == 0) s.words ≡ true → holds s x ≡ false
holds-zeros s x h =
    ap (λ w. bit_at w (x % 64) == 1) (get_or-zeros s.words (x / 64) h) ∙ ap (λ b. b == 1) (bit_at-zero (x % 64))

-- the set of those that pass a test has twelve words
pub IsWords-set_of : (p : ℕ → Bool) → IsWords (set_of p)
unfolding set_of
IsWords-set_of p = record { size = length-words p 0 12; fit = fits } where
  fits : (i : ℕ) → slice_index (words_of p 0 12) i < 2 ^ 64
  fits i = elim (cases_lt i 12) [
    | inl low ↦ rw (get_or-words p 0 12 i low) (word_fits p (0 + 64 * i) 64)
    | inr high ↦ rw (get_or_past {X = ℕ} (words_of p 0 12) i 0 (omega (arith, high, length-words p 0 12))) (omega arith)
  ]
