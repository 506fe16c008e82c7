-- The other ends of a location's links, in order.
use Rattle.std.proofs.Common.{◌≡◌, ℕ, ◌+◌, ◌<◌, true, false, List, [], ◌∷◌, ◌++◌, length, ◌⊎◌, inl, inr, refl, sym, ap, subst, ◌∙◌, arith}
use Rattle.std.specs.Prelude.{if◌then◌else◌, filter, ◌==◌, ◌&&◌, ◌||◌}
use Rattle.std.specs.List.{list_any, flat_map, AllByRecursion}
use Rattle.std.proofs.lemmas.Bool.{cond-true, cond-false, false≢true, eqb-true, eq-eqb, ne_eqb, cases_eq, or_cases, and_parts, and_from, or_left, or_right, false_from_ne_true}
use Rattle.std.proofs.lemmas.List.Elements.{filter_agree, filter-append}
use Rattle.list_law.proofs.Changed.{filter-filter}
use Rattle.list_law.proofs.Truth.{same_tests}
use Rattle.net_base.specs.Network.{PlainNet, Ascend, IsBefore, IsLink, IsNet, is_router, joins, linked}
use Rattle.net_base.specs.Sets.{holds}
use Rattle.policy_base.specs.declared.case.Case.{Case}
use Rattle.net_base.specs.Locations.{in_order, numbers_below}
use Rattle.walk_states.specs.Growth.{may_enter, ways}
use Rattle.walk_states.proofs.Below.{filter_first, filter_none}

-- the other end of a link that has this end
abbrev pub other_end : ℕ → ℕ × ℕ → List ℕ
other_end at link = if link.0 == at then link.1 ∷ [] else (if link.1 == at then link.0 ∷ [] else [])

-- what these links add to the ways from a location
abbrev pub over_links : PlainNet → Case → ℕ → List (ℕ × ℕ) → List ℕ
over_links net case at links = flat_map (λ (link : ℕ × ℕ). filter (may_enter net case) (other_end at link)) links

-- links

-- the lesser end first, and both below n
abbrev pub IsPair : ℕ → ℕ × ℕ → Type 0
IsPair n link = (link.0 < link.1) × (link.1 < n)

-- m is the far end of a link of a location
abbrev IsFar : ℕ → ℕ × ℕ → ℕ → Type 0
IsFar at a m = ((a.0 ≡ at) × (a.1 ≡ m)) ⊎ ((a.0 ≡ m) × (a.1 ≡ at))

far-joins : (at k : ℕ) (a : ℕ × ℕ) → joins at k a ≡ true → IsFar at a k
far-joins at k a h = elim (or_cases (a.0 == at && a.1 == k) (a.0 == k && a.1 == at) h) [
  | inl t ↦
      let p = and_parts (a.0 == at) (a.1 == k) t in
      inl (eqb-true a.0 at p.0, eqb-true a.1 k p.1)
  | inr t ↦
      let p = and_parts (a.0 == k) (a.1 == at) t in
      inr (eqb-true a.0 k p.0, eqb-true a.1 at p.1)
]

joins-far : (at k : ℕ) (a : ℕ × ℕ) → IsFar at a k → joins at k a ≡ true
joins-far at k a h = elim h [
  | inl t ↦ or_left (a.0 == at && a.1 == k) (a.0 == k && a.1 == at) (and_from (a.0 == at) (a.1 == k) (eq-eqb a.0 at t.0) (eq-eqb a.1 k t.1))
  | inr t ↦ or_right (a.0 == at && a.1 == k) (a.0 == k && a.1 == at) (and_from (a.0 == k) (a.1 == at) (eq-eqb a.0 k t.0) (eq-eqb a.1 at t.1))
]

far_further : (n at m k : ℕ) (a b : ℕ × ℕ) → IsPair n a → IsPair n b → IsBefore a b → IsFar at a m → IsFar at b k → m < k
far_further n at m k a b p q before f g = elim (cases_eq a.0 b.0) [
  | inl e ↦
      let less = before.1 e in
      elim f [
        | inl s ↦ elim g [ inl t ↦ omega (arith, s, t, p, q) | inr t ↦ omega (arith, s, t, p, q) ]
        | inr s ↦ elim g [ inl t ↦ omega (arith, s, t, p, q) | inr t ↦ omega (arith, s, t, p, q) ]
      ]
  | inr ne ↦
      let least = before.0 in
      elim f [
        | inl s ↦ elim g [ inl t ↦ absurd (ne (s.0 ∙ sym t.0)) | inr t ↦ omega (arith, s, t, p, q) ]
        | inr s ↦ elim g [ inl t ↦ omega (arith, s, t, p, q) | inr t ↦ omega (arith, s, t, p, q, ne) ]
      ]
]

-- further links have further ends
later_further : (n at m : ℕ) (a : ℕ × ℕ) (links : List (ℕ × ℕ)) → IsPair n a → IsFar at a m → AllByRecursion (IsPair n) links → AllByRecursion (IsBefore a) links
    → (k : ℕ) → list_any (joins at k) links ≡ true → m < k
later_further n at m a [] p f pairs before k h = absurd (false≢true h)
later_further n at m a (b ∷ bs) p f pairs before k h = elim (or_cases (joins at k b) (list_any (joins at k) bs) h) [
  | inl t ↦ far_further n at m k a b p pairs.0 before.0 f (far-joins at k b t)
  | inr t ↦ later_further n at m a bs p f pairs.1 before.1 k t
]

-- the tests for the ends of a link
joins-only : (n at m k : ℕ) (a : ℕ × ℕ) → IsPair n a → IsFar at a m → joins at k a ≡ (m == k)
joins-only n at m k a p f = same_tests _ _
    (λ h. eq-eqb m k (same_far (far-joins at k a h)))
    (λ h. joins-far at k a (subst (IsFar at a) (eqb-true m k h) f))
  where
    same_far : IsFar at a k → m ≡ k
    same_far g = elim f [
      | inl s ↦ elim g [ inl t ↦ omega (arith, s, t, p) | inr t ↦ omega (arith, s, t, p) ]
      | inr s ↦ elim g [ inl t ↦ omega (arith, s, t, p) | inr t ↦ omega (arith, s, t, p) ]
    ]

ends-filter : (n at : ℕ) (links : List (ℕ × ℕ)) → AllByRecursion (IsPair n) links → Ascend links
    → flat_map (other_end at) links ≡ filter (λ k. list_any (joins at k) links) (numbers_below n)
ends-filter n at [] pairs order = sym (filter_none (λ k. false) n (λ k lt. refl))
ends-filter n at (a ∷ links) pairs order = let rest = ends-filter n at links pairs.1 order.1 in elim (cases_eq a.0 at) [
  | inl e ↦ ap (λ l. l ++ flat_map (other_end at) links) (first e) ∙ far rest a.1 (inl_far e)
  | inr ne ↦ elim (cases_eq a.1 at) [
    | inl e ↦ ap (λ l. l ++ flat_map (other_end at) links) (second ne e) ∙ far rest a.0 (inr_far e)
    | inr un ↦
        ap (λ l. l ++ flat_map (other_end at) links) (neither ne un)
        ∙ rest
        ∙ filter_agree (λ k. list_any (joins at k) links) (λ k. list_any (joins at k) (a ∷ links))
        (λ k. ap (λ b. b || list_any (joins at k) links) (sym (unjoined k ne un))) (numbers_below n)
  ]
]
  where
    first : a.0 ≡ at → other_end at a ≡ a.1 ∷ []
    first e = cond-true (a.0 == at) _ _ (eq-eqb a.0 at e)

    second : (a.0 ≡ at → ⊥) → a.1 ≡ at → other_end at a ≡ a.0 ∷ []
    second ne e = cond-false (a.0 == at) _ _ (ne_eqb a.0 at ne) ∙ cond-true (a.1 == at) _ _ (eq-eqb a.1 at e)

    neither : (a.0 ≡ at → ⊥) → (a.1 ≡ at → ⊥) → other_end at a ≡ []
    neither ne un = cond-false (a.0 == at) _ _ (ne_eqb a.0 at ne) ∙ cond-false (a.1 == at) _ _ (ne_eqb a.1 at un)

    unjoined : (k : ℕ) → (a.0 ≡ at → ⊥) → (a.1 ≡ at → ⊥) → joins at k a ≡ false
    unjoined k ne un = false_from_ne_true (joins at k a) (λ h. not_far (far-joins at k a h))
      where
        not_far : IsFar at a k → ⊥
        not_far f = elim f [ inl t ↦ ne t.0 | inr t ↦ un t.1 ]

    inl_far : a.0 ≡ at → IsFar at a a.1
    inl_far e = inl (e, refl)

    inr_far : a.1 ≡ at → IsFar at a a.0
    inr_far e = inr (refl, e)

    within : (m : ℕ) → IsFar at a m → m < n
    within m f =
        let p = pairs.0 in
        elim f [ inl t ↦ omega (arith, t, p) | inr t ↦ omega (arith, t, p) ]

    far : flat_map (other_end at) links ≡ filter (λ k. list_any (joins at k) links) (numbers_below n) → (m : ℕ) → IsFar at a m
        → m ∷ flat_map (other_end at) links ≡ filter (λ k. list_any (joins at k) (a ∷ links)) (numbers_below n)
    far rest m f =
        ap (λ l. m ∷ l) rest
        ∙ sym (filter_first (λ k. list_any (joins at k) links) m n (within m f) (later_further n at m a links pairs.0 f pairs.1 order.0))
        ∙ filter_agree (λ k. m == k || list_any (joins at k) links) (λ k. list_any (joins at k) (a ∷ links))
        (λ k. ap (λ b. b || list_any (joins at k) links) (sym (joins-only n at m k a pairs.0 f))) (numbers_below n)

pub each_pair : (net : PlainNet) (links : List (ℕ × ℕ)) → AllByRecursion (IsLink net) links → AllByRecursion (IsPair (length net.routers + length net.peers)) links
each_pair net [] h = tt
each_pair net (a ∷ links) h = ((h.0.0, h.0.1), each_pair net links h.1)

filter-over : (net : PlainNet) (case : Case) (at : ℕ) (links : List (ℕ × ℕ)) → over_links net case at links ≡ filter (may_enter net case) (flat_map (other_end at) links)
filter-over net case at [] = refl
filter-over net case at (a ∷ links) =
    ap (λ l. filter (may_enter net case) (other_end at a) ++ l) (filter-over net case at links)
    ∙ sym (filter-append (may_enter net case) (other_end at a) (flat_map (other_end at) links))

pub ways-over_links : (net : PlainNet) (case : Case) (at : ℕ) → IsNet net → (holds case.origins at || is_router net at) ≡ true → over_links net case at net.links ≡ ways net case at
unfolding ways
ways-over_links net case at rules sends =
    filter-over net case at net.links
    ∙ ap (filter (may_enter net case)) (ends-filter (length net.routers + length net.peers) at net.links (each_pair net net.links rules.links) rules.order)
    ∙ filter-filter (may_enter net case) (linked net at) (in_order net)
    ∙ sym (cond-true (holds case.origins at || is_router net at) _ _ sends)

pub ways-none : (net : PlainNet) (case : Case) (at : ℕ) → (holds case.origins at || is_router net at) ≡ false → [] ≡ ways net case at
unfolding ways
ways-none net case at sends = sym (cond-false (holds case.origins at || is_router net at) _ _ sends)
