-- The items of any list stand in order, each once, in some list.
use Rattle.std.proofs.Common.{◌≡◌, true, List, [], ◌∷◌, Some, refl, sym, ap, ◌∙◌, subst, inl, inr}
use Rattle.std.specs.Prelude.{◌↔◌}
use Rattle.std.specs.Cmp.{IsTotalOrder}
use Rattle.std.specs.List.Sorted.{IsStrictlySortedBy}
use Rattle.std.specs.Ordering.{eq_by_cmp, is_eq, ordering_reverse}
use Rattle.std.specs.declared.cmp.Ordering.{Ordering}
use Rattle.std.specs.declared.cmp.Ordering.TheVariants.{Less, Equal, Greater}
use Rattle.list_law.specs.Members.{IsIn}
use Rattle.list_law.proofs.Members.{AllByRecursion-IsIn, AllByRecursion-from_IsIn, IsIn-cons_cases, IsIn-later}

-- the second list has the items of the first, in order and each once
pub record IsOrdered {A : Type 0} (R : A → A → Ordering) (xs ys : List A) : Type 0 where
  pub same : (x : A) → IsIn ys x ↔ IsIn xs x
  pub order : IsStrictlySortedBy R ys

module _ {A : Type 0} {R : A → A → Ordering} (total : IsTotalOrder R) (exact : (x y : A) → eq_by_cmp R x y ≡ true → x ≡ y) where
  of_none : IsOrdered R [] []
  unfolding IsStrictlySortedBy
  of_none = record { same = λ z. (λ at. at, λ at. at); order = tt }

  of_one : (x : A) → IsOrdered R (x ∷ []) (x ∷ [])
  unfolding IsStrictlySortedBy
  of_one x = record { same = λ z. (λ at. at, λ at. at); order = (tt, tt) }

  rest_in_order : (y : A) (ys : List A) → IsStrictlySortedBy R (y ∷ ys) → IsStrictlySortedBy R ys
  unfolding IsStrictlySortedBy
  rest_in_order y ys order = order.1

  -- x goes before the first one
  before : (x y : A) (ys : List A) → R x y ≡ Less → IsStrictlySortedBy R (y ∷ ys) → IsOrdered R (x ∷ y ∷ ys) (x ∷ y ∷ ys)
  unfolding IsStrictlySortedBy
  before x y ys less order = record {
    same = λ z. (λ at. at, λ at. at);
    order = ((less, AllByRecursion-from_IsIn (λ (z : A). R x z ≡ Less) ys (λ z at. total.trans x y z less (AllByRecursion-IsIn (λ (w : A). R y w ≡ Less) ys z order.0 at))), order);
  }

  -- x is the first one
  again : (x y : A) (ys : List A) → x ≡ y → IsStrictlySortedBy R (y ∷ ys) → IsOrdered R (x ∷ y ∷ ys) (y ∷ ys)
  again x y ys is order = record {
    same = λ z. (λ at. IsIn-later x z (y ∷ ys) at, λ at. elim (IsIn-cons_cases x (y ∷ ys) z at) [ inl first ↦ (0, ap Some (sym is ∙ first)) | inr later ↦ later ]);
    order = order;
  }

  -- x goes behind the first one
  behind : (x y : A) (ys zs : List A) → R y x ≡ Less → IsStrictlySortedBy R (y ∷ ys) → IsOrdered R (x ∷ ys) zs → IsOrdered R (x ∷ y ∷ ys) (y ∷ zs)
  unfolding IsStrictlySortedBy
  behind x y ys zs less order rest = record {
    same = λ z. (
      λ at. elim (IsIn-cons_cases y zs z at) [
        | inl first ↦ IsIn-later x z (y ∷ ys) (0, ap Some first)
        | inr later ↦ elim (IsIn-cons_cases x ys z ((rest.same z).0 later)) [
          | inl first ↦ (0, ap Some first)
          | inr last ↦ IsIn-later x z (y ∷ ys) (IsIn-later y z ys last)
        ]
      ],
      λ at. elim (IsIn-cons_cases x (y ∷ ys) z at) [
        | inl first ↦ IsIn-later y z zs ((rest.same z).1 (0, ap Some first))
        | inr later ↦ elim (IsIn-cons_cases y ys z later) [
          | inl first ↦ (0, ap Some first)
          | inr last ↦ IsIn-later y z zs ((rest.same z).1 (IsIn-later x z ys last))
        ]
      ],
    );
    order = (
      AllByRecursion-from_IsIn (λ (z : A). R y z ≡ Less) zs (λ z at. elim (IsIn-cons_cases x ys z ((rest.same z).0 at)) [
        | inl first ↦ subst (λ (w : A). R y w ≡ Less) first less
        | inr last ↦ AllByRecursion-IsIn (λ (w : A). R y w ≡ Less) ys z order.0 last
      ]),
      rest.order,
    );
  }

  -- where x goes among items in order
  placed : (x : A) (ys : List A) → IsStrictlySortedBy R ys → (zs : List A) × IsOrdered R (x ∷ ys) zs
  placed x [] order = (x ∷ [], of_one x)
  placed x (y ∷ ys) order = by (R x y) refl (placed x ys (rest_in_order y ys order))
    where
      by : (o : Ordering) → R x y ≡ o → (zs : List A) × IsOrdered R (x ∷ ys) zs → (zs : List A) × IsOrdered R (x ∷ y ∷ ys) zs
      by Less is rest = (x ∷ y ∷ ys, before x y ys is order)
      by Equal is rest = (y ∷ ys, again x y ys (exact x y (ap is_eq is)) order)
      by Greater is rest = (y ∷ rest.0, behind x y ys rest.0 (total.antisymm y x ∙ ap ordering_reverse is) order rest.1)

  pub ordered : (xs : List A) → (ys : List A) × IsOrdered R xs ys
  ordered [] = ([], of_none)
  ordered (x ∷ xs) =
      let rest = ordered xs in
      let all = placed x rest.0 rest.1.order in
      (all.0, record { same = λ z. (λ at. here x xs rest.0 z rest.1 ((all.1.same z).0 at), λ at. (all.1.same z).1 (back x xs rest.0 z rest.1 at)); order = all.1.order })
    where
      here : (x : A) (xs ys : List A) (z : A) → IsOrdered R xs ys → IsIn (x ∷ ys) z → IsIn (x ∷ xs) z
      here x xs ys z rest at = elim (IsIn-cons_cases x ys z at) [ inl first ↦ (0, ap Some first) | inr later ↦ IsIn-later x z xs ((rest.same z).0 later) ]

      back : (x : A) (xs ys : List A) (z : A) → IsOrdered R xs ys → IsIn (x ∷ xs) z → IsIn (x ∷ ys) z
      back x xs ys z rest at = elim (IsIn-cons_cases x xs z at) [ inl first ↦ (0, ap Some first) | inr later ↦ IsIn-later x z ys ((rest.same z).1 later) ]
