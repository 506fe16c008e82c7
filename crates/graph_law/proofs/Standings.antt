-- Lists of standings without repeats, and where each stands in one.
use Rattle.std.proofs.Common.{◌≡◌, ◌⊎◌, zero, suc, Bool, true, false, cond, List, [], ◌∷◌, ◌++◌, slice_get, Some, refl, sym, ap, ◌∙◌, subst, inl, inr}
use Rattle.std.specs.List.{list_any}
use Rattle.std.proofs.lemmas.Bool.{false≢true}
use Rattle.std.proofs.lemmas.Option.{same_Some}
use Rattle.list_law.proofs.Apart.{Apart}
use Rattle.list_law.proofs.Members.{IsIn-nil, IsIn-later, list_any-from_IsIn, list_any_member}
use Rattle.list_law.specs.Members.{IsIn}
use Rattle.path_exprs.specs.Expression.{more}
use Rattle.walk_states.specs.Built.{place_in}
use Rattle.path_exprs.specs.Standings.{Standing, same_standing, without_repeats}
use Rattle.walk_states.proofs.SameStandings.{same-equal, same-itself, equal-same}

-- it is seen
seen-In : (x : Standing) (seen : List Standing) → list_any (same_standing x) seen ≡ true → IsIn seen x
seen-In x seen h =
    let r = list_any_member (same_standing x) seen h in
    subst (λ y. IsIn seen y) (sym (same-equal x r.0 r.2)) r.1

unseen : (x : Standing) (seen : List Standing) → list_any (same_standing x) seen ≡ false → IsIn seen x → ⊥
unseen x seen h k = false≢true (sym h ∙ list_any-from_IsIn (same_standing x) seen x k (same-itself x))

-- what is left without repeats was in the list and isn't seen
kept-at : (seen : List Standing) (y : Standing) (ys : List Standing) (x : Standing) (b : Bool) → list_any (same_standing y) seen ≡ b →
    (IsIn (without_repeats seen ys) x → IsIn ys x × (IsIn seen x → ⊥)) → (IsIn (without_repeats (y ∷ seen) ys) x → IsIn ys x × (IsIn (y ∷ seen) x → ⊥)) →
    IsIn (cond b (without_repeats seen ys) (y ∷ without_repeats (y ∷ seen) ys)) x → IsIn (y ∷ ys) x × (IsIn seen x → ⊥)
kept-at seen y ys x true e skip keep h = let r = skip h in (IsIn-later y x ys r.0, r.1)
kept-at seen y ys x false e skip keep (zero, at) = ((0, at), λ k. unseen y seen e (subst (λ w. IsIn seen w) (sym (same_Some y x at)) k))
kept-at seen y ys x false e skip keep (suc i, at) = let r = keep (i, at) in (IsIn-later y x ys r.0, λ k. r.1 (IsIn-later y x seen k))

pub without_repeats_parts : (seen xs : List Standing) (x : Standing) → IsIn (without_repeats seen xs) x → IsIn xs x × (IsIn seen x → ⊥)
without_repeats_parts seen [] x h = absurd (IsIn-nil x h)
without_repeats_parts seen (y ∷ ys) x h =
    kept-at seen y ys x (list_any (same_standing y) seen) refl (without_repeats_parts seen ys x) (without_repeats_parts (y ∷ seen) ys x) h

-- and what was in the list is seen or left
found-at : (seen : List Standing) (y : Standing) (ys : List Standing) (x : Standing) (b : Bool) → list_any (same_standing y) seen ≡ b →
    (IsIn ys x → IsIn seen x ⊎ IsIn (without_repeats seen ys) x) → (IsIn ys x → IsIn (y ∷ seen) x ⊎ IsIn (without_repeats (y ∷ seen) ys) x) →
    IsIn (y ∷ ys) x → IsIn seen x ⊎ IsIn (cond b (without_repeats seen ys) (y ∷ without_repeats (y ∷ seen) ys)) x
found-at seen y ys x true e skip keep (zero, at) = inl (subst (λ w. IsIn seen w) (same_Some y x at) (seen-In y seen e))
found-at seen y ys x true e skip keep (suc i, at) = skip (i, at)
found-at seen y ys x false e skip keep (zero, at) = inr (0, at)
found-at seen y ys x false e skip keep (suc i, at) = sort (keep (i, at))
  where
    sort : IsIn (y ∷ seen) x ⊎ IsIn (without_repeats (y ∷ seen) ys) x → IsIn seen x ⊎ IsIn (y ∷ without_repeats (y ∷ seen) ys) x
    sort (inl (zero, at)) = inr (0, at)
    sort (inl (suc j, at)) = inl (j, at)
    sort (inr k) = inr (IsIn-later y x (without_repeats (y ∷ seen) ys) k)

pub without_repeats_cases : (seen xs : List Standing) (x : Standing) → IsIn xs x → IsIn seen x ⊎ IsIn (without_repeats seen xs) x
without_repeats_cases seen [] x h = absurd (IsIn-nil x h)
without_repeats_cases seen (y ∷ ys) x h =
    found-at seen y ys x (list_any (same_standing y) seen) refl (without_repeats_cases seen ys x) (without_repeats_cases (y ∷ seen) ys x) h

apart-at : (seen : List Standing) (y : Standing) (ys : List Standing) (b : Bool) → Apart (λ u v. u ≡ v) (without_repeats seen ys) →
    Apart (λ u v. u ≡ v) (without_repeats (y ∷ seen) ys) → Apart (λ u v. u ≡ v) (cond b (without_repeats seen ys) (y ∷ without_repeats (y ∷ seen) ys))
apart-at seen y ys true skip keep = skip
apart-at seen y ys false skip keep = ((λ x h e. (without_repeats_parts (y ∷ seen) ys x h).1 (0, ap Some e)), keep)

pub apart_without_repeats : (seen xs : List Standing) → Apart (λ u v. u ≡ v) (without_repeats seen xs)
apart_without_repeats seen [] = tt
apart_without_repeats seen (y ∷ ys) =
    apart-at seen y ys (list_any (same_standing y) seen) (apart_without_repeats seen ys) (apart_without_repeats (y ∷ seen) ys)

-- the front of a list comes first, and what follows is without what was in it
append-at : (seen : List Standing) (x : Standing) (xs rest : List Standing) (b : Bool) →
    ((more : List Standing) × (without_repeats seen (xs ++ rest) ≡ without_repeats seen xs ++ without_repeats more rest)) →
    ((more : List Standing) × (without_repeats (x ∷ seen) (xs ++ rest) ≡ without_repeats (x ∷ seen) xs ++ without_repeats more rest)) →
    (more : List Standing) × (cond b (without_repeats seen (xs ++ rest)) (x ∷ without_repeats (x ∷ seen) (xs ++ rest))
    ≡ cond b (without_repeats seen xs) (x ∷ without_repeats (x ∷ seen) xs) ++ without_repeats more rest)
append-at seen x xs rest true skip keep = skip
append-at seen x xs rest false skip keep = (keep.0, ap (λ l. x ∷ l) keep.1)

pub without_repeats-append : (seen xs rest : List Standing) →
    (more : List Standing) × (without_repeats seen (xs ++ rest) ≡ without_repeats seen xs ++ without_repeats more rest)
without_repeats-append seen [] rest = (seen, refl)
without_repeats-append seen (x ∷ xs) rest =
    append-at seen x xs rest (list_any (same_standing x) seen) (without_repeats-append seen xs rest) (without_repeats-append (x ∷ seen) xs rest)

-- a list without repeats stays
stays-at : (seen : List Standing) (x : Standing) (xs : List Standing) (b : Bool) → list_any (same_standing x) seen ≡ b → (IsIn seen x → ⊥) → without_repeats (x ∷ seen) xs ≡ xs →
    cond b (without_repeats seen xs) (x ∷ without_repeats (x ∷ seen) xs) ≡ x ∷ xs
stays-at seen x xs true e new again = absurd (new (seen-In x seen e))
stays-at seen x xs false e new again = ap (λ l. x ∷ l) again

pub without_repeats-apart : (seen xs : List Standing) → Apart (λ u v. u ≡ v) xs → ((x : Standing) → IsIn xs x → IsIn seen x → ⊥) → without_repeats seen xs ≡ xs
without_repeats-apart seen [] a new = refl
without_repeats-apart seen (x ∷ xs) a new =
    stays-at seen x xs (list_any (same_standing x) seen) refl (new x (0, refl)) (without_repeats-apart (x ∷ seen) xs a.1 fresh)
  where
    fresh : (y : Standing) → IsIn xs y → IsIn (x ∷ seen) y → ⊥
    fresh y h (zero, at) = a.0 y h (same_Some x y at)
    fresh y h (suc j, at) = new y (IsIn-later x y xs h) (j, at)

-- the place of a standing of the list is its place
place-at : (y x : Standing) (ys : List Standing) (b : Bool) → same_standing y x ≡ b → (IsIn ys x → slice_get ys (place_in ys x) ≡ Some x) → IsIn (y ∷ ys) x →
    slice_get (y ∷ ys) (cond b 0 (suc (place_in ys x))) ≡ Some x
place-at y x ys true e rest h = ap Some (same-equal y x e)
place-at y x ys false e rest (zero, at) = absurd (false≢true (sym e ∙ equal-same y x (same_Some y x at)))
place-at y x ys false e rest (suc i, at) = rest (i, at)

pub slice_get-place_in : (xs : List Standing) (x : Standing) → IsIn xs x → slice_get xs (place_in xs x) ≡ Some x
slice_get-place_in [] x h = absurd (IsIn-nil x h)
slice_get-place_in (y ∷ ys) x h = place-at y x ys (same_standing y x) refl (slice_get-place_in ys x) h
