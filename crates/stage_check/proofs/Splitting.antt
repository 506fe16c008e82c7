-- Lists that are put together from what passes a test and what doesn't are the same only where both parts are.
use Rattle.std.proofs.Common.{◌≡◌, Bool, true, false, List, [], ◌∷◌, ◌++◌, filter, map, refl, sym, ap, ap₂, ◌∙◌, append-nil}
use Rattle.std.specs.Prelude.{not}
use Rattle.std.specs.List.{AllByRecursion}
use Rattle.std.proofs.lemmas.List.Elements.{filter-append}

module _ {A : Type 0} (q : A → Bool) where
  filter_on : (xs : List A) → AllByRecursion (λ a. q a ≡ true) xs → filter q xs ≡ xs
  filter_on [] all = refl
  filter_on (x ∷ xs) all = let on : q x ≡ true = all.0 in rw on (ap (λ ys. x ∷ ys) (filter_on xs all.1))

  filter_off : (xs : List A) → AllByRecursion (λ a. q a ≡ false) xs → filter q xs ≡ []
  filter_off [] all = refl
  filter_off (x ∷ xs) all = let off : q x ≡ false = all.0 in rw off (filter_off xs all.1)

front_is : {A : Type 0} (q : A → Bool) (xs ys : List A) → AllByRecursion (λ a. q a ≡ true) xs → AllByRecursion (λ a. q a ≡ false) ys → filter q (xs ++ ys) ≡ xs
front_is q xs ys on off = filter-append q xs ys ∙ ap₂ (λ u v. u ++ v) (filter_on q xs on) (filter_off q ys off) ∙ append-nil xs

back_is : {A : Type 0} (q : A → Bool) (xs ys : List A) → AllByRecursion (λ a. q a ≡ false) xs → AllByRecursion (λ a. q a ≡ true) ys → filter q (xs ++ ys) ≡ ys
back_is q xs ys off on = filter-append q xs ys ∙ ap₂ (λ u v. u ++ v) (filter_off q xs off) (filter_on q ys on)

turned_on : {A : Type 0} (q : A → Bool) (xs : List A) → AllByRecursion (λ a. q a ≡ true) xs → AllByRecursion (λ a. not (q a) ≡ false) xs
turned_on q [] all = tt
turned_on q (x ∷ xs) all = (ap not all.0, turned_on q xs all.1)

turned_off : {A : Type 0} (q : A → Bool) (xs : List A) → AllByRecursion (λ a. q a ≡ false) xs → AllByRecursion (λ a. not (q a) ≡ true) xs
turned_off q [] all = tt
turned_off q (x ∷ xs) all = (ap not all.0, turned_off q xs all.1)

pub split_by : {A : Type 0} (q : A → Bool) (xs xs' ys ys' : List A) → AllByRecursion (λ a. q a ≡ true) xs → AllByRecursion (λ a. q a ≡ true) xs'
    → AllByRecursion (λ a. q a ≡ false) ys → AllByRecursion (λ a. q a ≡ false) ys' → xs ++ ys ≡ xs' ++ ys' → (xs ≡ xs') × (ys ≡ ys')
split_by q xs xs' ys ys' on on' off off' same = (
  sym (front_is q xs ys on off) ∙ ap (filter q) same ∙ front_is q xs' ys' on' off',
  sym (back_is (λ a. not (q a)) xs ys (turned_on q xs on) (turned_off q ys off)) ∙ ap (filter (λ a. not (q a))) same
      ∙ back_is (λ a. not (q a)) xs' ys' (turned_on q xs' on') (turned_off q ys' off'),
)
