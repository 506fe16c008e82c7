-- What is gathered, one standing after another.
use Rattle.std.proofs.Common.{◌≡◌, ℕ, zero, suc, ◌<◌, ◌≤◌, Bool, true, false, List, [], ◌∷◌, ◌++◌, length, Some, ◌⊎◌, inl, inr, refl, sym, ap, subst, ◌∙◌, append_assoc, arith}
use Rattle.std.specs.Prelude.{slice_get, ◌||◌}
use Rattle.std.specs.List.{list_any, IsDistinct}
use Rattle.std.proofs.lemmas.Bool.{cases_Bool, cond-true, cond-false, or_cases, or_left, or_right, false≢true, cases_lt}
use Rattle.std.proofs.lemmas.List.{append-nil}
use Rattle.std.proofs.lemmas.List.Folds.{list_any-append}
use Rattle.std.proofs.lemmas.Map.Keys.{IsDistinct-push}
use Rattle.std.proofs.lemmas.Option.{same_Some, slice_get_within}
use Rattle.walk_states.specs.Built.{place_in}
use Rattle.path_exprs.specs.Standings.{Standing, same_standing, without_repeats}
use Rattle.list_law.proofs.Items.{slice_get-append_left}
use Rattle.walk_states.specs.Growth.{with_standing, gathered}
use Rattle.walk_states.proofs.SameStandings.{Among, standings_equivalence, equal-same, among-head, among-first, among-later}

pub among-append : (x : Standing) (xs ys : List Standing) → Among (xs ++ ys) x → Among xs x ⊎ Among ys x
among-append x xs ys h = or_cases (list_any (same_standing x) xs) (list_any (same_standing x) ys) (sym (list_any-append (same_standing x) xs ys) ∙ h)

pub among-left : (x : Standing) (xs ys : List Standing) → Among xs x → Among (xs ++ ys) x
among-left x xs ys h = list_any-append (same_standing x) xs ys ∙ or_left (list_any (same_standing x) xs) (list_any (same_standing x) ys) h

pub among-right : (x : Standing) (xs ys : List Standing) → Among ys x → Among (xs ++ ys) x
among-right x xs ys h = list_any-append (same_standing x) xs ys ∙ or_right (list_any (same_standing x) xs) (list_any (same_standing x) ys) h

pub with-cases : (xs : List Standing) (x : Standing)
    → (Among xs x × (with_standing xs x ≡ xs)) ⊎ ((list_any (same_standing x) xs ≡ false) × (with_standing xs x ≡ xs ++ x ∷ []))
unfolding with_standing
with-cases xs x = elim (cases_Bool (list_any (same_standing x) xs)) [
  | inl t ↦ inl (t, cond-true _ _ _ t)
  | inr f ↦ inr (f, cond-false _ _ _ f)
]

pub with-extends : (xs : List Standing) (x : Standing) → (more : List Standing) × (with_standing xs x ≡ xs ++ more)
with-extends xs x = elim (with-cases xs x) [
  | inl t ↦ ([], t.1 ∙ sym (append-nil xs))
  | inr f ↦ (x ∷ [], f.1)
]

pub with-among : (xs : List Standing) (x : Standing) → Among (with_standing xs x) x
with-among xs x = elim (with-cases xs x) [
  | inl t ↦ subst (λ l. Among l x) (sym t.1) t.0
  | inr f ↦ subst (λ l. Among l x) (sym f.1) (among-right x xs (x ∷ []) (among-first x []))
]

pub with-distinct : (xs : List Standing) (x : Standing) → IsDistinct same_standing xs → IsDistinct same_standing (with_standing xs x)
with-distinct xs x d = elim (with-cases xs x) [
  | inl t ↦ subst (IsDistinct same_standing) (sym t.1) d
  | inr f ↦ subst (IsDistinct same_standing) (sym f.1) (IsDistinct-push standings_equivalence xs x d f.0)
]

pub gathered-extends : (xs ts : List Standing) → (more : List Standing) × (gathered xs ts ≡ xs ++ more)
unfolding gathered
gathered-extends xs [] = ([], sym (append-nil xs))
gathered-extends xs (t ∷ ts) =
    let a = with-extends xs t in
    let b = gathered-extends (with_standing xs t) ts in
    (a.0 ++ b.0, b.1 ∙ ap (λ l. l ++ b.0) a.1 ∙ append_assoc xs a.0 b.0)

pub gathered-append : (xs ts us : List Standing) → gathered xs (ts ++ us) ≡ gathered (gathered xs ts) us
unfolding gathered
gathered-append xs [] us = refl
gathered-append xs (t ∷ ts) us = gathered-append (with_standing xs t) ts us

pub gathered-kept : (xs ts : List Standing) (x : Standing) → Among xs x → Among (gathered xs ts) x
gathered-kept xs ts x h =
    let e = gathered-extends xs ts in
    subst (λ l. Among l x) (sym e.1) (among-left x xs e.0 h)

pub gathered-among : (xs ts : List Standing) (x : Standing) → Among ts x → Among (gathered xs ts) x
unfolding gathered
gathered-among xs [] x h = absurd (false≢true h)
gathered-among xs (t ∷ ts) x h = elim (among-head x t ts h) [
  | inl e ↦ gathered-kept (with_standing xs t) ts x (subst (Among (with_standing xs t)) (sym e) (with-among xs t))
  | inr e ↦ gathered-among (with_standing xs t) ts x e
]

pub gathered-distinct : (xs ts : List Standing) → IsDistinct same_standing xs → IsDistinct same_standing (gathered xs ts)
unfolding gathered
gathered-distinct xs [] d = d
gathered-distinct xs (t ∷ ts) d = gathered-distinct (with_standing xs t) ts (with-distinct xs t d)

pub among-slice_get : (xs : List Standing) (k : ℕ) (x : Standing) → slice_get xs k ≡ Some x → Among xs x
among-slice_get [] k x h = cc
among-slice_get (y ∷ ys) zero x h = subst (Among (y ∷ ys)) (same_Some y x h) (among-first y ys)
among-slice_get (y ∷ ys) (suc k) x h = among-later x y ys (among-slice_get ys k x h)

-- the standing at a place past a list is one of those behind it
pub past-append : (xs ts : List Standing) (k : ℕ) (x : Standing) → slice_get (xs ++ ts) k ≡ Some x → length xs ≤ k → Among ts x
past-append [] ts k x h le = among-slice_get ts k x h
past-append (y ∷ ys) ts zero x h le = absurd (omega arith)
past-append (y ∷ ys) ts (suc k) x h le = past-append ys ts k x h (omega arith)

-- what is added is one of the standings to be added
pub gathered-new : (xs ts : List Standing) (k : ℕ) (x : Standing) → slice_get (gathered xs ts) k ≡ Some x → length xs ≤ k → Among ts x
unfolding gathered
gathered-new xs [] k x h le = absurd (omega (arith, slice_get_within xs k x h))
gathered-new xs (t ∷ ts) k x h le = elim (with-cases xs t) [
  | inl e ↦ among-later x t ts (gathered-new (with_standing xs t) ts k x h (subst (λ l. length l ≤ k) (sym e.1) le))
  | inr e ↦ elim (cases_lt k (length (with_standing xs t))) [
    | inl lt ↦ before e.1 lt
    | inr ge ↦ among-later x t ts (gathered-new (with_standing xs t) ts k x h ge)
  ]
]
  where
    before : with_standing xs t ≡ xs ++ t ∷ [] → k < length (with_standing xs t) → Among (t ∷ ts) x
    before e lt =
        let g = gathered-extends (with_standing xs t) ts in
        let at : slice_get (xs ++ t ∷ []) k ≡ Some x = ap (λ l. slice_get l k) (sym e) ∙ sym (slice_get-append_left (with_standing xs t) g.0 k lt) ∙ ap (λ l. slice_get l k) (sym g.1) ∙ h in
        elim (among-head x t [] (past-append xs (t ∷ []) k x at le)) [
          | inl e ↦ subst (Among (t ∷ ts)) (sym e) (among-first t ts)
          | inr e ↦ absurd (false≢true e)
        ]

-- where the same standings were seen, leaving out repeats is gathering
pub without_repeats-gathered : (seen xs ts : List Standing) → ((x : Standing) → list_any (same_standing x) seen ≡ list_any (same_standing x) xs)
    → xs ++ without_repeats seen ts ≡ gathered xs ts
unfolding gathered
without_repeats-gathered seen xs [] alike = append-nil xs
without_repeats-gathered seen xs (t ∷ ts) alike = elim (with-cases xs t) [
  | inl e ↦
      ap (λ l. xs ++ l) (cond-true (list_any (same_standing t) seen) _ _ (alike t ∙ e.0))
      ∙ without_repeats-gathered seen xs ts alike ∙ ap (λ l. gathered l ts) (sym e.1)
  | inr e ↦
      ap (λ l. xs ++ l) (cond-false (list_any (same_standing t) seen) _ _ (alike t ∙ e.0))
      ∙ sym (append_assoc xs (t ∷ []) (without_repeats (t ∷ seen) ts))
      ∙ without_repeats-gathered (t ∷ seen) (xs ++ t ∷ []) ts (alike_pushed t)
      ∙ ap (λ l. gathered l ts) (sym e.1)
]
  where
    or_swap : (a b : Bool) → (a || b) ≡ (b || (a || false))
    or_swap true true = refl
    or_swap true false = refl
    or_swap false true = refl
    or_swap false false = refl

    alike_pushed : (t x : Standing) → list_any (same_standing x) (t ∷ seen) ≡ list_any (same_standing x) (xs ++ t ∷ [])
    alike_pushed t x =
        ap (λ b. same_standing x t || b) (alike x)
        ∙ or_swap (same_standing x t) (list_any (same_standing x) xs)
        ∙ sym (list_any-append (same_standing x) xs (t ∷ []))

among-rest : (x y : Standing) (ys : List Standing) → Among (y ∷ ys) x → same_standing y x ≡ false → Among ys x
among-rest x y ys h f = elim (among-head x y ys h) [
  | inl e ↦ absurd (false≢true (sym f ∙ equal-same y x (sym e)))
  | inr e ↦ e
]

pub place-kept : (xs more : List Standing) (x : Standing) → Among xs x → place_in (xs ++ more) x ≡ place_in xs x
place-kept [] more x h = absurd (false≢true h)
place-kept (y ∷ ys) more x h = elim (cases_Bool (same_standing y x)) [
  | inl t ↦ cond-true (same_standing y x) _ _ t ∙ sym (cond-true (same_standing y x) _ _ t)
  | inr f ↦
      cond-false (same_standing y x) _ _ f ∙ ap suc (place-kept ys more x (among-rest x y ys h f)) ∙ sym (cond-false (same_standing y x) _ _ f)
]

pub place-within : (xs : List Standing) (x : Standing) → Among xs x → place_in xs x < length xs
place-within [] x h = absurd (false≢true h)
place-within (y ∷ ys) x h = elim (cases_Bool (same_standing y x)) [
  | inl t ↦ subst (λ n. n < length (y ∷ ys)) (sym (cond-true (same_standing y x) 0 (suc (place_in ys x)) t)) (omega arith)
  | inr f ↦
      let below = place-within ys x (among-rest x y ys h f) in
      subst (λ n. n < length (y ∷ ys)) (sym (cond-false (same_standing y x) 0 (suc (place_in ys x)) f)) (omega arith)
]
