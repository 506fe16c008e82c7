-- Ascending lists of pairs.
use Rattle.std.proofs.Common.{◌≡◌, ℕ, ◌<◌, Bool, true, false, List, [], ◌∷◌, refl, sym, ◌∙◌, subst, arith, inl, inr}
use Rattle.std.specs.List.{AllByRecursion, items_where_true}
use Rattle.list_law.specs.Members.{IsIn}
use Rattle.list_law.proofs.Members.{AllByRecursion-IsIn, IsIn-cons_cases, IsIn-later, IsIn-nil}
use Rattle.net_base.specs.Network.{Ascend, IsBefore}

-- ---- the items where a list of marks is true

picked_all : {A : Type 0} (P : A → Type 0) (ms : List Bool) (xs : List A) → AllByRecursion P xs → AllByRecursion P (items_where_true ms xs)
picked_all P [] xs all = tt
picked_all P (m ∷ ms) [] all = tt
picked_all P (true ∷ ms) (x ∷ xs) all = (all.0, picked_all P ms xs all.1)
picked_all P (false ∷ ms) (x ∷ xs) all = picked_all P ms xs all.1

pub picked_ascend : (ms : List Bool) (xs : List (ℕ × ℕ)) → Ascend xs → Ascend (items_where_true ms xs)
picked_ascend [] xs order = tt
picked_ascend (m ∷ ms) [] order = tt
picked_ascend (true ∷ ms) (x ∷ xs) order = (picked_all (IsBefore x) ms xs order.0, picked_ascend ms xs order.1)
picked_ascend (false ∷ ms) (x ∷ xs) order = picked_ascend ms xs order.1

-- ---- two ascending lists of the same pairs are one

not_before_itself : (x : ℕ × ℕ) → IsBefore x x → ⊥
not_before_itself x before = let less : x.1 < x.1 = before.1 refl in omega (arith, less)

not_both : (x y : ℕ × ℕ) → IsBefore x y → IsBefore y x → ⊥
not_both x y one other =
    let same : x.0 ≡ y.0 = omega (arith, one.0, other.0) in
    let up : x.1 < y.1 = one.1 same in
    let down : y.1 < x.1 = other.1 (sym same) in
    omega (arith, up, down)

pub one_ascent : (xs ys : List (ℕ × ℕ)) → Ascend xs → Ascend ys → ((x : ℕ × ℕ) → IsIn xs x → IsIn ys x) → ((x : ℕ × ℕ) → IsIn ys x → IsIn xs x) → xs ≡ ys
one_ascent [] [] up down there back = refl
one_ascent [] (y ∷ ys) up down there back = absurd (IsIn-nil y (back y (0, refl)))
one_ascent (x ∷ xs) [] up down there back = absurd (IsIn-nil x (there x (0, refl)))
one_ascent (x ∷ xs) (y ∷ ys) up down there back =
    let first : x ≡ y = same_first in
    let rest = one_ascent xs ys up.1 down.1 (λ z h. over first z h) (λ z h. under first z h) in
    λ i. first i ∷ rest i
  where
    same_first : x ≡ y
    same_first = elim (IsIn-cons_cases y ys x (there x (0, refl))) [
      | inl same ↦ sym same
      | inr later ↦ elim (IsIn-cons_cases x xs y (back y (0, refl))) [
        | inl same ↦ same
        | inr after ↦ absurd (not_both x y (AllByRecursion-IsIn (IsBefore x) xs y up.0 after) (AllByRecursion-IsIn (IsBefore y) ys x down.0 later))
      ]
    ]

    over : x ≡ y → (z : ℕ × ℕ) → IsIn xs z → IsIn ys z
    over first z h = elim (IsIn-cons_cases y ys z (there z (IsIn-later x z xs h))) [
      | inl same ↦ absurd (not_before_itself x (subst (IsBefore x) (sym same ∙ sym first) (AllByRecursion-IsIn (IsBefore x) xs z up.0 h)))
      | inr later ↦ later
    ]

    under : x ≡ y → (z : ℕ × ℕ) → IsIn ys z → IsIn xs z
    under first z h = elim (IsIn-cons_cases x xs z (back z (IsIn-later y z ys h))) [
      | inl same ↦ absurd (not_before_itself y (subst (IsBefore y) (sym same ∙ first) (AllByRecursion-IsIn (IsBefore y) ys z down.0 h)))
      | inr later ↦ later
    ]
