-- Lists of nodes in ascending order.
use Rattle.std.proofs.Common.{◌≡◌, ◌⊎◌, ℕ, ◌<◌, ◌≤◌, Bool, true, false, ◌==◌, List, [], ◌∷◌, ◌++◌, filter, refl, sym, ap, ◌∙◌, subst, inl, inr, arith}
use Rattle.std.specs.List.{list_any, AllByRecursion}
use Rattle.std.proofs.lemmas.Bool.{cases_Bool, or_cases, or_left, or_right, cond-true, cond-false, eq-eqb, eqb-true, both_ways}
use Rattle.list_law.proofs.Each.{AllByRecursion-filter}
use Rattle.reach_prune.specs.Searches.{is_among}
use Rattle.node_quotient.specs.Alike.{Ascends}

pub above_in : (x y : ℕ) (xs : List ℕ) → AllByRecursion (λ z. x < z) xs → is_among xs y ≡ true → x < y
above_in x y [] all h = absurd (cc)
above_in x y (z ∷ zs) all h = elim (or_cases (z == y) (list_any (λ w. w == y) zs) h) [
  | inl e ↦ let is = eqb-true z y e in let lt = all.0 in omega (arith, is, lt)
  | inr r ↦ above_in x y zs all.1 r
]

pub among_more : (xs : List ℕ) (x m : ℕ) → is_among (xs ++ x ∷ []) m ≡ true → (is_among xs m ≡ true) ⊎ (x ≡ m)
among_more [] x m h = elim (or_cases (x == m) false h) [
  | inl e ↦ inr (eqb-true x m e)
  | inr n ↦ absurd (cc)
]
among_more (y ∷ ys) x m h = elim (or_cases (y == m) (list_any (λ w. w == m) (ys ++ x ∷ [])) h) [
  | inl e ↦ inl (or_left (y == m) (list_any (λ w. w == m) ys) e)
  | inr r ↦ elim (among_more ys x m r) [
    | inl t ↦ inl (or_right (y == m) (list_any (λ w. w == m) ys) t)
    | inr e ↦ inr e
  ]
]

pub among_old : (xs : List ℕ) (x m : ℕ) → is_among xs m ≡ true → is_among (xs ++ x ∷ []) m ≡ true
among_old [] x m h = absurd (cc)
among_old (y ∷ ys) x m h = elim (or_cases (y == m) (list_any (λ w. w == m) ys) h) [
  | inl e ↦ or_left (y == m) (list_any (λ w. w == m) (ys ++ x ∷ [])) e
  | inr r ↦ or_right (y == m) (list_any (λ w. w == m) (ys ++ x ∷ [])) (among_old ys x m r)
]

pub among_new : (xs : List ℕ) (x : ℕ) → is_among (xs ++ x ∷ []) x ≡ true
among_new [] x = or_left (x == x) false (eq-eqb x x refl)
among_new (y ∷ ys) x = or_right (y == x) (list_any (λ w. w == x) (ys ++ x ∷ [])) (among_new ys x)

all_more : (x y : ℕ) (xs : List ℕ) → AllByRecursion (λ z. x < z) xs → x < y → AllByRecursion (λ z. x < z) (xs ++ y ∷ [])
all_more x y [] all l = (l, tt)
all_more x y (z ∷ zs) all l = (all.0, all_more x y zs all.1 l)

pub ascends_more : (xs : List ℕ) (x : ℕ) → Ascends xs → ((m : ℕ) → is_among xs m ≡ true → m < x) → Ascends (xs ++ x ∷ [])
ascends_more [] x asc h = (tt, tt)
ascends_more (y ∷ ys) x asc h = (
  all_more y x ys asc.0 (h y (or_left (y == y) (list_any (λ w. w == y) ys) (eq-eqb y y refl))),
  ascends_more ys x asc.1 (λ m there. h m (or_right (y == m) (list_any (λ w. w == m) ys) there)),
)

-- the first of an ascending list is the least
pub first_least : (x y : ℕ) (xs : List ℕ) → Ascends (x ∷ xs) → is_among (x ∷ xs) y ≡ true → x ≤ y
first_least x y xs asc h = elim (or_cases (x == y) (list_any (λ w. w == y) xs) h) [
  | inl e ↦ let is = eqb-true x y e in omega (arith, is)
  | inr r ↦ let lt = above_in x y xs asc.0 r in omega (arith, lt)
]

module _ (p : ℕ → Bool) where
  pub ascends-filter : (xs : List ℕ) → Ascends xs → Ascends (filter p xs)
  ascends-filter [] asc = tt
  ascends-filter (x ∷ xs) asc = elim (cases_Bool (p x)) [
    | inl t ↦ subst Ascends (sym (cond-true (p x) (x ∷ filter p xs) (filter p xs) t)) (AllByRecursion-filter (λ y. x < y) p xs asc.0, ascends-filter xs asc.1)
    | inr f ↦ subst Ascends (sym (cond-false (p x) (x ∷ filter p xs) (filter p xs) f)) (ascends-filter xs asc.1)
  ]

  pub among-filter_parts : (xs : List ℕ) (n : ℕ) → is_among (filter p xs) n ≡ true → (is_among xs n ≡ true) × (p n ≡ true)
  among-filter_parts [] n h = absurd (cc)
  among-filter_parts (x ∷ xs) n h = elim (cases_Bool (p x)) [
    | inl t ↦ elim (or_cases (x == n) (list_any (λ w. w == n) (filter p xs)) (ap (λ ys. is_among ys n) (sym (cond-true (p x) (x ∷ filter p xs) (filter p xs) t)) ∙ h)) [
      | inl e ↦ (or_left (x == n) (list_any (λ w. w == n) xs) e, ap p (sym (eqb-true x n e)) ∙ t)
      | inr r ↦ let q = among-filter_parts xs n r in (or_right (x == n) (list_any (λ w. w == n) xs) q.0, q.1)
    ]
    | inr f ↦
        let q = among-filter_parts xs n (ap (λ ys. is_among ys n) (sym (cond-false (p x) (x ∷ filter p xs) (filter p xs) f)) ∙ h) in
        (or_right (x == n) (list_any (λ w. w == n) xs) q.0, q.1)
  ]

  pub among-filter : (xs : List ℕ) (n : ℕ) → is_among xs n ≡ true → p n ≡ true → is_among (filter p xs) n ≡ true
  among-filter [] n h t = absurd (cc)
  among-filter (x ∷ xs) n h t = elim (cases_Bool (p x)) [
    | inl px ↦ ap (λ ys. is_among ys n) (cond-true (p x) (x ∷ filter p xs) (filter p xs) px) ∙ (elim (or_cases (x == n) (list_any (λ w. w == n) xs) h) [
      | inl e ↦ or_left (x == n) (list_any (λ w. w == n) (filter p xs)) e
      | inr r ↦ or_right (x == n) (list_any (λ w. w == n) (filter p xs)) (among-filter xs n r t)
    ])
    | inr f ↦ ap (λ ys. is_among ys n) (cond-false (p x) (x ∷ filter p xs) (filter p xs) f) ∙ (elim (or_cases (x == n) (list_any (λ w. w == n) xs) h) [
      | inl e ↦ absurd (both_ways _ f (ap p (eqb-true x n e) ∙ t))
      | inr r ↦ among-filter xs n r t
    ])
  ]
