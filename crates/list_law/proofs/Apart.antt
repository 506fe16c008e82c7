-- Lists in which no two items are alike.
use Rattle.std.proofs.Common.{◌≡◌, ℕ, zero, suc, Bool, true, false, cond, List, [], ◌∷◌, ◌++◌, map, slice_get, filter, Some, refl, sym, ap, ◌∙◌, subst, ⊎_elim}
use Rattle.std.specs.List.{AllByRecursion, IsDistinct}
use Rattle.std.proofs.lemmas.Bool.{false≢true, false_from_ne_true}
use Rattle.std.proofs.lemmas.Map.Keys.{IsDistinct-head, IsDistinct-tail, IsDistinct-cons}
use Rattle.std.proofs.lemmas.Option.{same_Some}
use Rattle.list_law.specs.Members.{IsIn}
use Rattle.list_law.proofs.Members.{IsIn-nil, IsIn-later, IsIn-append_cases, IsIn-filter_parts, IsIn-map_parts}

-- none is like a later one
abbrev pub Apart : {X : Type 0} → (X → X → Type 0) → List X → Type 0
Apart R [] = Unit {0}
Apart {X} R (x ∷ xs) = ((y : X) → IsIn xs y → R x y → ⊥) × Apart R xs

module _ {X : Type 0} (R : X → X → Type 0) where
  pub Apart-append : (xs ys : List X) → Apart R xs → Apart R ys → ((x y : X) → IsIn xs x → IsIn ys y → R x y → ⊥) → Apart R (xs ++ ys)
  Apart-append [] ys a b cross = b
  Apart-append (x ∷ xs) ys a b cross = (
    (λ y h r. ⊎_elim (λ here. a.0 y here r) (λ there. cross x y (0, refl) there r) (IsIn-append_cases xs ys y h)),
    Apart-append xs ys a.1 b (λ z y h k r. cross z y (IsIn-later x z xs h) k r),
  )

  pub Apart-same : ((x y : X) → R x y → R y x) → (xs : List X) → Apart R xs → (x y : X) → IsIn xs x → IsIn xs y → R x y → x ≡ y
  Apart-same flip [] a x y h k r = absurd (IsIn-nil x h)
  Apart-same flip (z ∷ zs) a x y (zero, e) (zero, f) r = sym (same_Some z x e) ∙ same_Some z y f
  Apart-same flip (z ∷ zs) a x y (zero, e) (suc j, k) r = absurd (a.0 y (j, k) (subst (λ w. R w y) (sym (same_Some z x e)) r))
  Apart-same flip (z ∷ zs) a x y (suc i, h) (zero, f) r = absurd (a.0 x (i, h) (subst (λ w. R w x) (sym (same_Some z y f)) (flip x y r)))
  Apart-same flip (z ∷ zs) a x y (suc i, h) (suc j, k) r = Apart-same flip zs a.1 x y (i, h) (j, k) r

  filter-at : (p : X → Bool) (x : X) (xs : List X) (b : Bool) → ((y : X) → IsIn xs y → R x y → ⊥) → Apart R (filter p xs) → Apart R (cond b (x ∷ filter p xs) (filter p xs))
  filter-at p x xs true a rest = ((λ y h r. a y (IsIn-filter_parts p xs y h).0 r), rest)
  filter-at p x xs false a rest = rest

  pub Apart-filter : (p : X → Bool) (xs : List X) → Apart R xs → Apart R (filter p xs)
  Apart-filter p [] a = tt
  Apart-filter p (x ∷ xs) a = filter-at p x xs (p x) a.0 (Apart-filter p xs a.1)

pub Apart-weaken : {X : Type 0} (R S : X → X → Type 0) (xs : List X) → Apart R xs → ((x y : X) → IsIn xs x → IsIn xs y → S x y → R x y) → Apart S xs
Apart-weaken R S [] a back = tt
Apart-weaken R S (x ∷ xs) a back =
    ((λ y h s. a.0 y h (back x y (0, refl) (IsIn-later x y xs h) s)), Apart-weaken R S xs a.1 (λ y z h k s. back y z (IsIn-later x y xs h) (IsIn-later x z xs k) s))

-- what keeps items apart keeps what is made of them apart
pub Apart-map : {X Y : Type 0} (R : X → X → Type 0) (S : Y → Y → Type 0) (f : X → Y) (xs : List X) → Apart R xs → ((x y : X) → IsIn xs x → IsIn xs y → S (f x) (f y) → R x y) → Apart S (map f xs)
Apart-map R S f [] a back = tt
Apart-map R S f (x ∷ xs) a back = (
  (λ y h s. let o = IsIn-map_parts f xs y h in a.0 o.0 o.1 (back x o.0 (0, refl) (IsIn-later x o.0 xs o.1) (subst (λ w. S (f x) w) (sym o.2) s))),
  Apart-map R S f xs a.1 (λ y z h k s. back y z (IsIn-later x y xs h) (IsIn-later x z xs k) s),
)

none-distinct : {Y : Type 0} (e : Y → Y → Bool) → IsDistinct e []
unfolding IsDistinct
none-distinct e = tt

module _ {X Y : Type 0} (e : Y → Y → Bool) (f : X → Y) where
  none-alike : (x : X) (xs : List X) → AllByRecursion (λ y. e (f x) y ≡ false) (map f xs) → (y : X) → IsIn xs y → e (f x) (f y) ≡ true → ⊥
  none-alike x [] a y h t = IsIn-nil y h
  none-alike x (z ∷ zs) a y (zero, zy) t = false≢true (sym (ap (λ w. e (f x) (f w)) (sym (same_Some z y zy)) ∙ a.0) ∙ t)
  none-alike x (z ∷ zs) a y (suc i, h) t = none-alike x zs a.1 y (i, h) t

  pub Apart-from_distinct : (xs : List X) → IsDistinct e (map f xs) → Apart (λ x y. e (f x) (f y) ≡ true) xs
  Apart-from_distinct [] d = tt
  Apart-from_distinct (x ∷ xs) d = (none-alike x xs (IsDistinct-head e (f x) (map f xs) d), Apart-from_distinct xs (IsDistinct-tail e (f x) (map f xs) d))

  all-apart : (x : X) (xs : List X) → ((y : X) → IsIn xs y → e (f x) (f y) ≡ true → ⊥) → AllByRecursion (λ y. e (f x) y ≡ false) (map f xs)
  all-apart x [] a = tt
  all-apart x (z ∷ zs) a = (false_from_ne_true (e (f x) (f z)) (a z (0, refl)), all-apart x zs (λ y h t. a y (IsIn-later z y zs h) t))

  pub IsDistinct-from_apart : (xs : List X) → Apart (λ x y. e (f x) (f y) ≡ true) xs → IsDistinct e (map f xs)
  IsDistinct-from_apart [] a = none-distinct e
  IsDistinct-from_apart (x ∷ xs) a = IsDistinct-cons e (f x) (map f xs) (all-apart x xs a.0) (IsDistinct-from_apart xs a.1)

-- two places of one item are one
pub place_is_one : {X : Type 0} (xs : List X) → Apart (λ x y. x ≡ y) xs → (i j : ℕ) (x : X) → slice_get xs i ≡ Some x → slice_get xs j ≡ Some x → i ≡ j
place_is_one [] a i j x h k = absurd (IsIn-nil x (i, h))
place_is_one (y ∷ ys) a zero zero x h k = refl
place_is_one (y ∷ ys) a zero (suc j) x h k = absurd (a.0 x (j, k) (same_Some y x h))
place_is_one (y ∷ ys) a (suc i) zero x h k = absurd (a.0 x (i, h) (same_Some y x k))
place_is_one (y ∷ ys) a (suc i) (suc j) x h k = ap suc (place_is_one ys a.1 i j x h k)
