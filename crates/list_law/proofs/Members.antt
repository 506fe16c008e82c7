-- What is in a list that is made of others.
use Rattle.std.proofs.Common.{◌++◌, ◌∙◌, ◌∷◌, ◌≡◌, Bool, List, Some, [], ap, filter, flat_map, inl, inr, map, refl, subst, suc, sym, true, zero, ℕ}
use Rattle.std.specs.List.{AllByRecursion, Contains, list_any}
use Rattle.std.specs.Prelude.{◌⊎◌, option_map, slice_get}
use Rattle.std.proofs.lemmas.Bool.{cases_Bool, false≢true, or_cases}
use Rattle.std.proofs.lemmas.List.Elements.{Contains-append_cases, Contains-append_left, Contains-append_right}
use Rattle.std.proofs.lemmas.Map.Keys.{any_passes_from_place}
use Rattle.std.proofs.lemmas.Option.{get_or_from_slice_get, same_Some, slice_get-get_or, slice_get-map, slice_get_within}
use Rattle.list_law.proofs.Each.{AllByRecursion_at}
use Rattle.list_law.specs.Members.{IsIn}

pub Contains-from_IsIn : {A : Type 0} (xs : List A) (x : A) → IsIn xs x → Contains xs x
Contains-from_IsIn xs x h = (h.0, slice_get_within xs h.0 x h.1, get_or_from_slice_get xs h.0 x x h.1)

pub IsIn-from_Contains : {A : Type 0} (xs : List A) (x : A) → Contains xs x → IsIn xs x
IsIn-from_Contains xs x h = (h.0, slice_get-get_or xs h.0 x h.1 ∙ ap Some h.2)

pub IsIn-later : {A : Type 0} (x y : A) (xs : List A) → IsIn xs y → IsIn (x ∷ xs) y
IsIn-later x y xs h = (suc h.0, h.1)

pub IsIn-nil : {A : Type 0} (x : A) → IsIn [] x → ⊥
IsIn-nil x h = let at = h.1 in absurd cc

pub IsIn-cons_cases : {A : Type 0} (y : A) (ys : List A) (x : A) → IsIn (y ∷ ys) x → (y ≡ x) ⊎ IsIn ys x
IsIn-cons_cases y ys x h = go h.0 h.1
  where
    go : (i : ℕ) → slice_get (y ∷ ys) i ≡ Some x → (y ≡ x) ⊎ IsIn ys x
    go zero at = inl (same_Some y x at)
    go (suc i) at = inr (i, at)

pub IsIn-append_cases : {A : Type 0} (xs ys : List A) (x : A) → IsIn (xs ++ ys) x → IsIn xs x ⊎ IsIn ys x
IsIn-append_cases xs ys x h = elim (Contains-append_cases xs ys x (Contains-from_IsIn (xs ++ ys) x h)) [ inl t ↦ inl (IsIn-from_Contains xs x t) | inr t ↦ inr (IsIn-from_Contains ys x t) ]

pub IsIn-append_left : {A : Type 0} (xs ys : List A) (x : A) → IsIn xs x → IsIn (xs ++ ys) x
IsIn-append_left xs ys x h = IsIn-from_Contains (xs ++ ys) x (Contains-append_left xs ys x (Contains-from_IsIn xs x h))

pub IsIn-append_right : {A : Type 0} (xs ys : List A) (x : A) → IsIn ys x → IsIn (xs ++ ys) x
IsIn-append_right xs ys x h = IsIn-from_Contains (xs ++ ys) x (Contains-append_right xs ys x (Contains-from_IsIn ys x h))

pub IsIn-push : {A : Type 0} (xs : List A) (x : A) → IsIn (xs ++ x ∷ []) x
IsIn-push [] x = (0, refl)
IsIn-push (y ∷ ys) x = let later = IsIn-push ys x in (suc later.0, later.1)

pub IsIn-push_cases : {A : Type 0} (xs : List A) (x y : A) → IsIn (xs ++ x ∷ []) y → IsIn xs y ⊎ (x ≡ y)
IsIn-push_cases [] x y (zero, h) = inr cc
IsIn-push_cases [] x y (suc i, h) = absurd cc
IsIn-push_cases (z ∷ xs) x y (zero, h) = inl (0, h)
IsIn-push_cases (z ∷ xs) x y (suc i, h) = elim (IsIn-push_cases xs x y (i, h)) [
  | inl t ↦ inl (suc t.0, t.1)
  | inr t ↦ inr t
]

pub IsIn-map : {A B : Type 0} (f : A → B) (xs : List A) (x : A) → IsIn xs x → IsIn (map f xs) (f x)
IsIn-map f xs x h = (h.0, slice_get-map f xs h.0 ∙ ap (option_map f) h.1)

map_parts_at : {A B : Type 0} (f : A → B) (xs : List A) (i : ℕ) (y : B) → slice_get (map f xs) i ≡ Some y → (x : A) × IsIn xs x × (f x ≡ y)
map_parts_at f [] i y h = absurd cc
map_parts_at f (x ∷ xs) zero y h = (x, (0, refl), cc)
map_parts_at f (x ∷ xs) (suc i) y h = let later = map_parts_at f xs i y h in (later.0, IsIn-later x later.0 xs later.1, later.2)

pub IsIn-map_parts : {A B : Type 0} (f : A → B) (xs : List A) (y : B) → IsIn (map f xs) y → (x : A) × IsIn xs x × (f x ≡ y)
IsIn-map_parts f xs y h = map_parts_at f xs h.0 y h.1

filter_parts_at : {A : Type 0} (p : A → Bool) (xs : List A) (i : ℕ) (x : A) → slice_get (filter p xs) i ≡ Some x → IsIn xs x × (p x ≡ true)
filter_parts_at p [] i x h = absurd cc
filter_parts_at p (y ∷ ys) zero x h = elim (cases_Bool (p y)) [
  | inr t ↦ let later = filter_parts_at p ys 0 x (sym (rw t refl) ∙ h) in (IsIn-later y x ys later.0, later.1)
  | inl t ↦ let here : Some y ≡ Some x = sym (rw t refl) ∙ h in let same : y ≡ x = cc in ((0, here), ap p (sym same) ∙ t)
]
filter_parts_at p (y ∷ ys) (suc i) x h = elim (cases_Bool (p y)) [
  | inr t ↦ let later = filter_parts_at p ys (suc i) x (sym (rw t refl) ∙ h) in (IsIn-later y x ys later.0, later.1)
  | inl t ↦ let later = filter_parts_at p ys i x (sym (rw t refl) ∙ h) in (IsIn-later y x ys later.0, later.1)
]

pub IsIn-filter_parts : {A : Type 0} (p : A → Bool) (xs : List A) (x : A) → IsIn (filter p xs) x → IsIn xs x × (p x ≡ true)
IsIn-filter_parts p xs x h = filter_parts_at p xs h.0 x h.1

filter_at : {A : Type 0} (p : A → Bool) (xs : List A) (i : ℕ) (x : A) → slice_get xs i ≡ Some x → p x ≡ true → IsIn (filter p xs) x
filter_at p [] i x at h = absurd cc
filter_at p (y ∷ ys) zero x at h =
    let same : y ≡ x = cc in
    let here : p y ≡ true = ap p same ∙ h in
    (0, rw here (ap Some same))
filter_at p (y ∷ ys) (suc i) x at h =
    let later = filter_at p ys i x at h in
    elim (cases_Bool (p y)) [
      | inl t ↦ (suc later.0, rw t later.1)
      | inr t ↦ (later.0, rw t later.1)
    ]

pub IsIn-filter : {A : Type 0} (p : A → Bool) (xs : List A) (x : A) → IsIn xs x → p x ≡ true → IsIn (filter p xs) x
IsIn-filter p xs x h passes = filter_at p xs h.0 x h.1 passes

pub IsIn-flat_map_parts : {A B : Type 0} (f : A → List B) (xs : List A) (y : B) → IsIn (flat_map f xs) y → (x : A) × IsIn xs x × IsIn (f x) y
IsIn-flat_map_parts f [] y h = absurd (let gone : slice_get [] h.0 ≡ Some y = h.1 in cc)
IsIn-flat_map_parts f (x ∷ xs) y h = elim (IsIn-append_cases (f x) (flat_map f xs) y h) [
  | inl t ↦ (x, (0, refl), t)
  | inr t ↦ let later = IsIn-flat_map_parts f xs y t in (later.0, IsIn-later x later.0 xs later.1, later.2)
]

flat_map_at : {A B : Type 0} (f : A → List B) (xs : List A) (i : ℕ) (x : A) (y : B) → slice_get xs i ≡ Some x → IsIn (f x) y → IsIn (flat_map f xs) y
flat_map_at f [] i x y at h = absurd cc
flat_map_at f (z ∷ xs) zero x y at h = let same : z ≡ x = cc in IsIn-append_left (f z) (flat_map f xs) y (subst (λ w. IsIn (f w) y) (sym same) h)
flat_map_at f (z ∷ xs) (suc i) x y at h = IsIn-append_right (f z) (flat_map f xs) y (flat_map_at f xs i x y at h)

pub IsIn-flat_map : {A B : Type 0} (f : A → List B) (xs : List A) (x : A) (y : B) → IsIn xs x → IsIn (f x) y → IsIn (flat_map f xs) y
IsIn-flat_map f xs x y at h = flat_map_at f xs at.0 x y at.1 h

pub list_any_member : {A : Type 0} (p : A → Bool) (xs : List A) → list_any p xs ≡ true → (x : A) × IsIn xs x × (p x ≡ true)
list_any_member p [] h = absurd (false≢true h)
list_any_member p (y ∷ ys) h = elim (or_cases (p y) (list_any p ys) h) [
  | inl t ↦ (y, (0, refl), t)
  | inr t ↦ let found = list_any_member p ys t in (found.0, IsIn-later y found.0 ys found.1, found.2)
]

pub list_any-from_IsIn : {A : Type 0} (p : A → Bool) (xs : List A) (x : A) → IsIn xs x → p x ≡ true → list_any p xs ≡ true
list_any-from_IsIn p xs x at h = any_passes_from_place p xs at.0 x at.1 h

pub AllByRecursion-from_IsIn : {A : Type 0} (P : A → Type 0) (xs : List A) → ((x : A) → IsIn xs x → P x) → AllByRecursion P xs
AllByRecursion-from_IsIn P [] h = tt
AllByRecursion-from_IsIn P (x ∷ xs) h = (h x (0, refl), AllByRecursion-from_IsIn P xs (λ y at. h y (IsIn-later x y xs at)))

pub AllByRecursion-IsIn : {A : Type 0} (P : A → Type 0) (xs : List A) (x : A) → AllByRecursion P xs → IsIn xs x → P x
AllByRecursion-IsIn P xs x all at = AllByRecursion_at P xs at.0 x all at.1
