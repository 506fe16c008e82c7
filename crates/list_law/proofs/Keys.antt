-- Items that are told apart by their keys.
use Rattle.std.proofs.Common.{◌++◌, ◌<◌, ◌∙◌, ◌∷◌, ◌≡◌, Bool, List, Some, [], ap, arith, false, get_or, inl, inr, map, refl, sym, true, ℕ}
use Rattle.std.specs.List.{AllByRecursion, IsDistinct, list_any}
use Rattle.std.specs.List.Sorted.{IsStrictlySortedBy}
use Rattle.std.specs.Ordering.{nat_cmp}
use Rattle.std.specs.Prelude.{nat_eq, option_map, slice_get}
use Rattle.std.specs.declared.cmp.Ordering.TheVariants.{Less}
use Rattle.std.proofs.lemmas.Bool.{cases_lt, eq-eqb, false≢true, or_from}
use Rattle.std.proofs.lemmas.Map.Keys.{apart_from_distinct, sorted_head, sorted_tail}
use Rattle.std.proofs.lemmas.Option.{get_or_from_slice_get, slice_get-map, slice_get_within}
use Rattle.list_law.proofs.Orders.{nat_cmp-Less}
use Rattle.list_law.specs.Members.{IsIn}

key_at : {A K : Type 0} (key : A → K) (xs : List A) (i : ℕ) (x : A) → slice_get xs i ≡ Some x → slice_get (map key xs) i ≡ Some (key x)
key_at key xs i x at = slice_get-map key xs i ∙ ap (option_map key) at

before_apart : {A K : Type 0} (e : K → K → Bool) (key : A → K) (xs : List A) (i j : ℕ) (x y : A) → IsDistinct e (map key xs)
    → slice_get xs i ≡ Some x → slice_get xs j ≡ Some y → e (key x) (key y) ≡ true → i < j → ⊥
before_apart e key xs i j x y apart at_i at_j same less =
    let one = get_or_from_slice_get (map key xs) i (key x) (key x) (key_at key xs i x at_i) in
    let other = get_or_from_slice_get (map key xs) j (key y) (key x) (key_at key xs j y at_j) in
    let within = slice_get_within (map key xs) j (key y) (key_at key xs j y at_j) in
    let off : e (get_or (map key xs) i (key x)) (get_or (map key xs) j (key x)) ≡ false = apart_from_distinct e (map key xs) i j (key x) apart less within in
    let on : e (get_or (map key xs) i (key x)) (get_or (map key xs) j (key x)) ≡ true = ap (λ k. e k (get_or (map key xs) j (key x))) one ∙ ap (e (key x)) other ∙ same in
    absurd (false≢true (sym off ∙ on))

-- items with the same key stand at one place
pub place_by_key : {A K : Type 0} (e : K → K → Bool) (key : A → K) (xs : List A) (i j : ℕ) (x y : A) → IsDistinct e (map key xs)
    → slice_get xs i ≡ Some x → slice_get xs j ≡ Some y → e (key x) (key y) ≡ true → e (key y) (key x) ≡ true → i ≡ j
place_by_key e key xs i j x y apart at_i at_j same back = elim (cases_lt i j) [
  | inl t ↦ absurd (before_apart e key xs i j x y apart at_i at_j same t)
  | inr t ↦ elim (cases_lt j i) [
    | inl u ↦ absurd (before_apart e key xs j i y x apart at_j at_i back u)
    | inr u ↦ omega (arith, t, u)
  ]
]

pub one_place : {A : Type 0} (key : A → ℕ) (xs : List A) (i j : ℕ) (x y : A) → IsDistinct nat_eq (map key xs)
    → slice_get xs i ≡ Some x → slice_get xs j ≡ Some y → key x ≡ key y → i ≡ j
one_place key xs i j x y apart at_i at_j same = place_by_key nat_eq key xs i j x y apart at_i at_j (eq-eqb _ _ same) (eq-eqb _ _ (sym same))

-- and they are one
pub one_by_key : {A K : Type 0} (e : K → K → Bool) (key : A → K) (xs : List A) (x y : A) → IsDistinct e (map key xs) → IsIn xs x → IsIn xs y
    → e (key x) (key y) ≡ true → e (key y) (key x) ≡ true → x ≡ y
one_by_key e key xs x y apart at_x at_y same back = elim (cases_lt at_x.0 at_y.0) [
  | inl t ↦ absurd (before_apart e key xs at_x.0 at_y.0 x y apart at_x.1 at_y.1 same t)
  | inr t ↦ elim (cases_lt at_y.0 at_x.0) [
    | inl u ↦ absurd (before_apart e key xs at_y.0 at_x.0 y x apart at_y.1 at_x.1 back u)
    | inr u ↦
        let place : at_x.0 ≡ at_y.0 = omega (arith, t, u) in
        let both : Some x ≡ Some y = sym at_x.1 ∙ ap (slice_get xs) place ∙ at_y.1 in
        cc
  ]
]

-- what differs from all before it is not among them
pub others_before : {A : Type 0} (same : A → A → Bool) → ((a b : A) → same a b ≡ false → same b a ≡ false) → (xs : List A) (x : A) (more : List A)
    → IsDistinct same (xs ++ x ∷ more) → list_any (same x) xs ≡ false
unfolding IsDistinct
others_before same flip [] x more apart = refl
others_before {A} same flip (y ∷ xs) x more apart = or_from (same x y) (list_any (same x) xs) (flip y x (of_middle xs apart.0)) (others_before same flip xs x more apart.1) where
  of_middle : (zs : List A) → AllByRecursion (λ z. same y z ≡ false) (zs ++ x ∷ more) → same y x ≡ false
  of_middle [] all = all.0
  of_middle (z ∷ zs) all = of_middle zs all.1

apart_all : {K : Type 0} (e : K → K → Bool) (f : ℕ → K) (n x : ℕ) (zs : List ℕ) → AllByRecursion (λ z. nat_cmp x z ≡ Less) zs → AllByRecursion (λ z. z < n) zs
    → ((a b : ℕ) → a < b → b < n → e (f a) (f b) ≡ false) → AllByRecursion (λ k. e (f x) k ≡ false) (map f zs)
apart_all e f n x [] above low apart = tt
apart_all e f n x (z ∷ zs) above low apart = (apart x z (nat_cmp-Less x z above.0) low.0, apart_all e f n x zs above.1 low.1 apart)

-- numbers in order have different keys where any two numbers have
pub IsDistinct-sorted_keys : {K : Type 0} (e : K → K → Bool) (f : ℕ → K) (n : ℕ) (zs : List ℕ) → IsStrictlySortedBy nat_cmp zs → AllByRecursion (λ z. z < n) zs
    → ((a b : ℕ) → a < b → b < n → e (f a) (f b) ≡ false) → IsDistinct e (map f zs)
unfolding IsDistinct
IsDistinct-sorted_keys e f n [] sorted low apart = tt
IsDistinct-sorted_keys e f n (z ∷ zs) sorted low apart =
    (apart_all e f n z zs (sorted_head nat_cmp z zs sorted) low.1 apart, IsDistinct-sorted_keys e f n zs (sorted_tail nat_cmp z zs sorted) low.1 apart)
