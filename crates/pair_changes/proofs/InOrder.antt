-- Lists in which each item comes before every later one.
use Rattle.std.proofs.Common.{◌≡◌, ℕ, zero, suc, ◌<◌, Bool, List, [], ◌∷◌, ◌++◌, map, filter, Some, refl, subst, sym, arith, inl, inr}
use Rattle.std.specs.Prelude.{slice_get, if◌then◌else◌}
use Rattle.std.proofs.lemmas.Bool.{cases_Bool}
use Rattle.std.proofs.lemmas.Option.{same_Some}
use Rattle.list_law.specs.Members.{IsIn}
use Rattle.list_law.proofs.Members.{IsIn-append_cases, IsIn-filter_parts, IsIn-later, IsIn-map_parts, IsIn-nil, IsIn-push_cases}
use Rattle.net_base.specs.Locations.{numbers_below}
use Rattle.net_base.proofs.NumbersBelow.{below_from_In}

abbrev pub InOrder : {A : Type 0} → (A → A → Type 0) → List A → Type 0
InOrder {A} R xs = (i j : ℕ) (a b : A) → i < j → slice_get xs i ≡ Some a → slice_get xs j ≡ Some b → R a b

module _ {A : Type 0} (R : A → A → Type 0) where
  pub order_none : InOrder R []
  order_none i j a b less at_a at_b = absurd cc

  pub order_cons : (x : A) (xs : List A) → ((z : A) → IsIn xs z → R x z) → InOrder R xs → InOrder R (x ∷ xs)
  order_cons x xs first rest zero zero a b less at_a at_b = absurd (omega (arith, less))
  order_cons x xs first rest zero (suc j) a b less at_a at_b = subst (λ (y : A). R y b) (same_Some x a at_a) (first b (j, at_b))
  order_cons x xs first rest (suc i) zero a b less at_a at_b = absurd (omega (arith, less))
  order_cons x xs first rest (suc i) (suc j) a b less at_a at_b = rest i j a b (omega (arith, less)) at_a at_b

  pub order_tail : (x : A) (xs : List A) → InOrder R (x ∷ xs) → InOrder R xs
  order_tail x xs all i j a b less at_a at_b = all (suc i) (suc j) a b (omega (arith, less)) at_a at_b

  pub order_head : (x : A) (xs : List A) → InOrder R (x ∷ xs) → (z : A) → IsIn xs z → R x z
  order_head x xs all z at = all zero (suc at.0) x z (omega arith) refl at.1

  pub order_append : (xs ys : List A) → InOrder R xs → InOrder R ys → ((x y : A) → IsIn xs x → IsIn ys y → R x y) → InOrder R (xs ++ ys)
  order_append [] ys one other cross = other
  order_append (x ∷ xs) ys one other cross =
      order_cons x (xs ++ ys) (λ z at. elim (IsIn-append_cases xs ys z at) [
        | inl t ↦ order_head x xs one z t
        | inr t ↦ cross x z (0, refl) t
      ]) (order_append xs ys (order_tail x xs one) other (λ y z there at. cross y z (IsIn-later x y xs there) at))

  pub order_filter : (p : A → Bool) (xs : List A) → InOrder R xs → InOrder R (filter p xs)
  order_filter p [] all = order_none
  order_filter p (x ∷ xs) all = elim (cases_Bool (p x)) [
    | inl t ↦ subst (λ (b : Bool). InOrder R (if b then x ∷ filter p xs else filter p xs)) (sym t)
        (order_cons x (filter p xs) (λ z at. order_head x xs all z (IsIn-filter_parts p xs z at).0) (order_filter p xs (order_tail x xs all)))
    | inr t ↦ subst (λ (b : Bool). InOrder R (if b then x ∷ filter p xs else filter p xs)) (sym t) (order_filter p xs (order_tail x xs all))
  ]

  -- one more at the end
  pub order_push : (xs : List A) (x : A) → InOrder R xs → ((y : A) → IsIn xs y → R y x) → InOrder R (xs ++ x ∷ [])
  order_push xs x all last =
      order_append xs (x ∷ []) all (order_cons x [] (λ z at. absurd (IsIn-nil z at)) order_none) (λ y z there at. elim (IsIn-push_cases [] x z at) [
        | inl t ↦ absurd (IsIn-nil z t)
        | inr t ↦ subst (λ (w : A). R y w) t (last y there)
      ])

pub order_map : {A B : Type 0} (R : B → B → Type 0) (f : A → B) (xs : List A) → InOrder (λ (x y : A). R (f x) (f y)) xs → InOrder R (map f xs)
order_map R f [] all = order_none R
order_map {A} R f (x ∷ xs) all =
    order_cons R (f x) (map f xs) (λ z at. let y = IsIn-map_parts f xs z at in subst (λ w. R (f x) w) y.2 (order_head (λ (a b : A). R (f a) (f b)) x xs all y.0 y.1))
    (order_map R f xs (order_tail (λ (a b : A). R (f a) (f b)) x xs all))

pub order_numbers : (n : ℕ) → InOrder (λ (i j : ℕ). i < j) (numbers_below n)
order_numbers zero = order_none (λ (i j : ℕ). i < j)
order_numbers (suc n) = order_push (λ (i j : ℕ). i < j) (numbers_below n) n (order_numbers n) (λ k at. below_from_In k n at)
