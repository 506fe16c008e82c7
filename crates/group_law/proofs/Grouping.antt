-- Items that join the group of their key.
use Rattle.std.proofs.Common.{◌≡◌, ℕ, zero, suc, Bool, true, false, List, [], ◌∷◌, ◌++◌, append-nil, cond, map, set, refl, sym, ap, ap₂, ◌∙◌, arith, inl, inr, Some}
use Rattle.std.specs.Prelude.{filter, slice_get}
use Rattle.std.proofs.lemmas.Bool.{cases_Bool}
use Rattle.std.proofs.lemmas.List.{map-append}
use Rattle.std.proofs.lemmas.List.Elements.{filter-append}
use Rattle.std.proofs.lemmas.Option.{same_Some}

module _ {A K G : Type 0} (is_of : K → A → Bool) (make : K → List A → G) where
  abbrev pub group : List A → K → G
  group xs k = make k (filter (is_of k) xs)

  module _ (xs : List A) (x : A) where
    -- an item is put behind those that have its key, and behind no others
    filter_on : (k : K) → is_of k x ≡ true → filter (is_of k) (xs ++ x ∷ []) ≡ filter (is_of k) xs ++ x ∷ []
    filter_on k on = filter-append (is_of k) xs (x ∷ []) ∙ ap (λ b. filter (is_of k) xs ++ cond b (x ∷ []) []) on

    filter_off : (k : K) → is_of k x ≡ false → filter (is_of k) (xs ++ x ∷ []) ≡ filter (is_of k) xs
    filter_off k off = filter-append (is_of k) xs (x ∷ []) ∙ ap (λ b. filter (is_of k) xs ++ cond b (x ∷ []) []) off ∙ append-nil (filter (is_of k) xs)

    groups_off : (keys : List K) → ((j : ℕ) (l : K) → slice_get keys j ≡ Some l → is_of l x ≡ false) → map (group xs) keys ≡ map (group (xs ++ x ∷ [])) keys
    groups_off [] off = refl
    groups_off (l ∷ ls) off =
        ap₂ (λ (g : G) (gs : List G). g ∷ gs) (ap (make l) (sym (filter_off l (off zero l refl)))) (groups_off ls (λ j k at. off (suc j) k at))

    -- the item joins a group
    pub group_grown : (keys : List K) (place : ℕ) (k : K) → ((j : ℕ) (l : K) → slice_get keys j ≡ Some l → is_of l x ≡ true → j ≡ place)
        → slice_get keys place ≡ Some k → is_of k x ≡ true
        → set (map (group xs) keys) place (make k (filter (is_of k) xs ++ x ∷ [])) ≡ map (group (xs ++ x ∷ [])) keys
    group_grown [] place k one at on = absurd cc
    group_grown (l ∷ ls) zero k one at on =
        ap₂ (λ (g : G) (gs : List G). g ∷ gs) (ap (make k) (sym (filter_on k on)) ∙ ap (λ m. make m (filter (is_of m) (xs ++ x ∷ []))) (sym (same_Some l k at)))
        (groups_off ls (λ j m there. elim (cases_Bool (is_of m x)) [
          | inl t ↦ absurd (omega (arith, one (suc j) m there t))
          | inr t ↦ t
        ]))
    group_grown (l ∷ ls) (suc place) k one at on = elim (cases_Bool (is_of l x)) [
      | inl t ↦ absurd (omega (arith, one zero l refl t))
      | inr t ↦
          ap₂ (λ (g : G) (gs : List G). g ∷ gs) (ap (make l) (sym (filter_off l t)))
          (group_grown ls place k (λ j m there is. omega (arith, one (suc j) m there is)) at on)
    ]

    -- or is the first of a new one
    pub group_begun : (keys : List K) (k : K) → ((j : ℕ) (l : K) → slice_get keys j ≡ Some l → is_of l x ≡ false) → filter (is_of k) xs ≡ [] → is_of k x ≡ true
        → map (group xs) keys ++ make k (x ∷ []) ∷ [] ≡ map (group (xs ++ x ∷ [])) (keys ++ k ∷ [])
    group_begun keys k off none on =
        ap₂ (λ (gs hs : List G). gs ++ hs) (groups_off keys off) (ap (λ ys. make k ys ∷ []) (sym (filter_on k on ∙ ap (λ ys. ys ++ x ∷ []) none)))
        ∙ sym (map-append (group (xs ++ x ∷ [])) keys (k ∷ []))
