-- The numbers below a number, in order.
use Rattle.std.proofs.Common.{◌≡◌, ℕ, zero, suc, ◌+◌, ◌<◌, Bool, true, false, List, [], ◌∷◌, ◌++◌, map, length, get_or, Some, inl, inr, refl, sym, ap, ◌∙◌, add-one, length-append, arith}
use Rattle.std.specs.Prelude.{filter, slice_get}
use Rattle.std.specs.List.{AllByRecursion}
use Rattle.std.specs.List.Sorted.{IsStrictlySortedBy}
use Rattle.std.specs.Ordering.{nat_cmp}
use Rattle.std.proofs.lemmas.Bool.{cases_lt, cond-false, cond-true}
use Rattle.std.proofs.lemmas.List.{append-nil, map-append}
use Rattle.std.proofs.lemmas.List.Elements.{filter-append}
use Rattle.std.proofs.lemmas.Map.Keys.{sorted_from_strictly_increasing}
use Rattle.std.proofs.lemmas.Option.{get_or_from_slice_get, slice_get_within}
use Rattle.list_law.specs.Members.{IsIn}
use Rattle.list_law.proofs.Apart.{Apart, Apart-append}
use Rattle.list_law.proofs.Items.{slice_get-append_left, slice_get-there}
use Rattle.list_law.proofs.Members.{AllByRecursion-from_IsIn, IsIn-nil, IsIn-push_cases}
use Rattle.net_base.specs.Locations.{numbers_below}

pub length-numbers_below : (n : ℕ) → length (numbers_below n) ≡ n
length-numbers_below zero = refl
length-numbers_below (suc n) = omega (arith, length-append (numbers_below n) (n ∷ []), length-numbers_below n)

-- ---- one more

numbers_more : (n : ℕ) → numbers_below (n + 1) ≡ numbers_below n ++ n ∷ []
numbers_more n = ap numbers_below (add-one n)

pub map_more : {B : Type 0} (f : ℕ → B) (n : ℕ) → map f (numbers_below (n + 1)) ≡ map f (numbers_below n) ++ f n ∷ []
map_more f n = ap (map f) (numbers_more n) ∙ map-append f (numbers_below n) (n ∷ [])

pub map_next_number : {B : Type 0} (f : ℕ → B) (n : ℕ) (items : List B) (item : B) → items ≡ map f (numbers_below n) → item ≡ f n → items ++ item ∷ [] ≡ map f (numbers_below (n + 1))
map_next_number f n items item so_far is = ap (λ xs. xs ++ item ∷ []) so_far ∙ ap (λ x. map f (numbers_below n) ++ x ∷ []) is ∙ sym (map_more f n)

module _ (p : ℕ → Bool) (n : ℕ) where
  filter_more : filter p (numbers_below (n + 1)) ≡ filter p (numbers_below n) ++ filter p (n ∷ [])
  filter_more = ap (filter p) (numbers_more n) ∙ filter-append p (numbers_below n) (n ∷ [])

  pub filter_kept : p n ≡ true → filter p (numbers_below (n + 1)) ≡ filter p (numbers_below n) ++ n ∷ []
  filter_kept on = filter_more ∙ ap (λ ns. filter p (numbers_below n) ++ ns) (cond-true (p n) (n ∷ []) [] on)

  pub filter_left : p n ≡ false → filter p (numbers_below (n + 1)) ≡ filter p (numbers_below n)
  filter_left off = filter_more ∙ ap (λ ns. filter p (numbers_below n) ++ ns) (cond-false (p n) (n ∷ []) [] off) ∙ append-nil (filter p (numbers_below n))

-- ---- each stands at its own place

pub slice_get-numbers_below : (n k : ℕ) → k < n → slice_get (numbers_below n) k ≡ Some k
slice_get-numbers_below zero k less = absurd (omega arith)
slice_get-numbers_below (suc n) k less = elim (cases_lt k n) [
  | inl t ↦ slice_get-append_left (numbers_below n) (n ∷ []) k (omega (arith, t, length-numbers_below n)) ∙ slice_get-numbers_below n k t
  | inr t ↦
      let last : n ≡ k = omega (arith, t, less) in
      let place : k ≡ length (numbers_below n) = omega (arith, last, length-numbers_below n) in
      ap (slice_get (numbers_below (suc n))) place ∙ slice_get-there (numbers_below n) n [] ∙ ap Some last
]

pub number_at_place : (n i d : ℕ) → i < n → get_or (numbers_below n) i d ≡ i
number_at_place n i d within = get_or_from_slice_get (numbers_below n) i i d (slice_get-numbers_below n i within)

pub number_got : (n i z : ℕ) → slice_get (numbers_below n) i ≡ Some z → (z ≡ i) × (i < n)
number_got n i z at =
    let within : i < n = omega (arith, slice_get_within (numbers_below n) i z at, length-numbers_below n) in
    (sym (get_or_from_slice_get (numbers_below n) i z 0 at) ∙ number_at_place n i 0 within, within)

-- ---- they are the numbers below it

pub In-numbers_below : (k n : ℕ) → k < n → IsIn (numbers_below n) k
In-numbers_below k n less = (k, slice_get-numbers_below n k less)

pub below_from_In : (k n : ℕ) → IsIn (numbers_below n) k → k < n
below_from_In k n h = let got = number_got n h.0 k h.1 in omega (arith, got.0, got.1)

pub numbers-below : (n : ℕ) → AllByRecursion (λ l. l < n) (numbers_below n)
numbers-below n = AllByRecursion-from_IsIn (λ l. l < n) (numbers_below n) (λ l at. below_from_In l n at)

-- ---- in order, and each once

pub sorted_numbers : (n : ℕ) → IsStrictlySortedBy nat_cmp (numbers_below n)
sorted_numbers n = sorted_from_strictly_increasing (numbers_below n) (λ k within.
    let long = length-numbers_below n in
    let this = number_at_place n k 0 (omega (arith, within, long)) in
    let next = number_at_place n (k + 1) 0 (omega (arith, within, long)) in
    omega (arith, this, next))

pub Apart-numbers_below : (n : ℕ) → Apart (λ (i : ℕ) (j : ℕ). i ≡ j) (numbers_below n)
Apart-numbers_below zero = tt
Apart-numbers_below (suc n) = Apart-append (λ i j. i ≡ j) (numbers_below n) (n ∷ []) (Apart-numbers_below n) ((λ y h e. IsIn-nil y h), tt) cross
  where
    cross : (i j : ℕ) → IsIn (numbers_below n) i → IsIn (n ∷ []) j → i ≡ j → ⊥
    cross i j h k same = elim (IsIn-push_cases [] n j k) [
      | inl none ↦ IsIn-nil j none
      | inr last ↦ let less = below_from_In i n h in omega (arith, less, last, same)
    ]
