-- Lists in which each item comes before every later one.
use Rattle.std.proofs.Common.{◌≡◌, ℕ, zero, suc, ◌<◌, Bool, List, [], ◌∷◌, ◌++◌, map, filter, Some, refl, subst, sym, arith, inl, inr}
use Rattle.std.specs.Prelude.{slice_get}
use Rattle.std.specs.List.{AllByRecursion}
use Rattle.std.proofs.lemmas.Bool.{cases_Bool}
use Rattle.std.proofs.lemmas.List.Elements.{filter-append}
use Rattle.list_law.specs.Members.{IsIn}
use Rattle.list_law.proofs.Each.{AllByRecursion-append, AllByRecursion-map, AllByRecursion_at}
use Rattle.list_law.proofs.Members.{AllByRecursion-from_IsIn, IsIn-filter_parts, IsIn-later, IsIn-nil, IsIn-push_cases}
use Rattle.net_base.specs.Locations.{numbers_below}
use Rattle.net_base.specs.Network.{Ascend, IsBefore}
use Rattle.net_base.proofs.NumbersBelow.{below_from_In}

module _ {X : Type 0} (R : X → X → Type 0) where
  abbrev pub Ordered : List X → Type 0
  Ordered [] = Unit {0}
  Ordered (x ∷ xs) = AllByRecursion (R x) xs × Ordered xs

  -- by the places of the items
  pub ordered_at : (xs : List X) → Ordered xs → (i j : ℕ) (x y : X) → i < j → slice_get xs i ≡ Some x → slice_get xs j ≡ Some y → R x y
  ordered_at [] o i j x y low h k = absurd cc
  ordered_at (z ∷ zs) o zero zero x y low h k = absurd (omega (arith, low))
  ordered_at (z ∷ zs) o zero (suc j) x y low h k = let same : z ≡ x = cc in subst (λ w. R w y) same (AllByRecursion_at (R z) zs j y o.0 k)
  ordered_at (z ∷ zs) o (suc i) zero x y low h k = absurd (omega (arith, low))
  ordered_at (z ∷ zs) o (suc i) (suc j) x y low h k = ordered_at zs o.1 i j x y (omega (arith, low)) h k

  pub Ordered-append : (xs ys : List X) → Ordered xs → Ordered ys → ((x y : X) → IsIn xs x → IsIn ys y → R x y) → Ordered (xs ++ ys)
  Ordered-append [] ys a b cross = b
  Ordered-append (x ∷ xs) ys a b cross =
      (AllByRecursion-append (R x) xs ys a.0 (AllByRecursion-from_IsIn (R x) ys (λ y at. cross x y (0, refl) at)), Ordered-append xs ys a.1 b (λ z y h k. cross z y (IsIn-later x z xs h) k))

pub Ordered-map : {X Y : Type 0} (R : Y → Y → Type 0) (f : X → Y) (xs : List X) → Ordered (λ (x y : X). R (f x) (f y)) xs → Ordered R (map f xs)
Ordered-map R f [] o = tt
Ordered-map R f (x ∷ xs) o = (AllByRecursion-map f (R (f x)) xs o.0, Ordered-map R f xs o.1)

pub Ordered-numbers : (test : ℕ → Bool) (n : ℕ) → Ordered (λ (i j : ℕ). i < j) (filter test (numbers_below n))
Ordered-numbers test zero = tt
Ordered-numbers test (suc n) =
    subst (Ordered (λ (i j : ℕ). i < j)) (sym (filter-append test (numbers_below n) (n ∷ [])))
    (Ordered-append (λ (i j : ℕ). i < j) (filter test (numbers_below n)) (filter test (n ∷ [])) (Ordered-numbers test n) last cross)
  where
    last : Ordered (λ (i j : ℕ). i < j) (filter test (n ∷ []))
    last = elim (cases_Bool (test n)) [
      | inl passes ↦ rw passes (tt, tt)
      | inr fails ↦ rw fails tt
    ]

    cross : (i j : ℕ) → IsIn (filter test (numbers_below n)) i → IsIn (filter test (n ∷ [])) j → i < j
    cross i j h k =
        let low = below_from_In i n (IsIn-filter_parts test (numbers_below n) i h).0 in
        elim (IsIn-push_cases [] n j (IsIn-filter_parts test (n ∷ []) j k).0) [
          | inl none ↦ absurd (IsIn-nil j none)
          | inr is ↦ omega (arith, low, is)
        ]

pub Ordered-ascent : (es : List (ℕ × ℕ)) → Ascend es → Ordered IsBefore es
Ordered-ascent [] o = tt
Ordered-ascent (e ∷ es) o = (o.0, Ordered-ascent es o.1)
