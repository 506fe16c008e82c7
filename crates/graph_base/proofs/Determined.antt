-- Where locations differ, the start or the step at a location is the one that is there.
use Rattle.std.proofs.Common.{◌≡◌, ℕ, true, false, ◌&&◌, eqb, List, [], ◌∷◌, map, Some, refl, sym, ap, ◌∙◌, inl, inr}
use Rattle.std.specs.Option.{option_map}
use Rattle.std.specs.Prelude.{nat_eq}
use Rattle.std.proofs.lemmas.Bool.{and_from, and_parts, cond-false, cond-true, eq-eqb, eqb-true, or_cases}
use Rattle.std.proofs.lemmas.Map.Keys.{IsDistinct-head, IsDistinct-tail}
use Rattle.std.specs.List.{AllByRecursion, IsDistinct, find, list_any}
use Rattle.graph_base.specs.Graphs.{PlainGraph}
use Rattle.graph_base.specs.Rules.{same_pair}
use Rattle.graph_base.specs.Runs.{has_step, is_start, place_of, start_at, step_at}

start_apart : (g : PlainGraph) (p n : ℕ) (starts : List ℕ) → AllByRecursion (λ q. nat_eq p q ≡ false) (map (place_of g) starts) → list_any (λ s. eqb s n) starts ≡ true → eqb p (place_of g n) ≡ false
start_apart g p n [] all h = absurd (cc)
start_apart g p n (s ∷ ss) all h = elim (or_cases (eqb s n) _ h) [
  | inl here ↦ ap (λ x. eqb p (place_of g x)) (sym (eqb-true s n here)) ∙ all.0
  | inr there ↦ start_apart g p n ss all.1 there
]

pub start_at-start : (g : PlainGraph) (n : ℕ) → IsDistinct nat_eq (map (place_of g) g.starts) → is_start g n ≡ true → start_at g (place_of g n) ≡ Some n
start_at-start g n one h = found g.starts one h
  where
    found : (starts : List ℕ) → IsDistinct nat_eq (map (place_of g) starts) → list_any (λ s. eqb s n) starts ≡ true → find (λ m. eqb (place_of g m) (place_of g n)) starts ≡ Some n
    found [] one h = absurd (cc)
    found (s ∷ ss) one h = elim (or_cases (eqb s n) _ h) [
      | inl here ↦ cond-true (eqb (place_of g s) (place_of g n)) _ _ (eq-eqb _ _ (ap (place_of g) (eqb-true s n here))) ∙ ap Some (eqb-true s n here)
      | inr there ↦ cond-false (eqb (place_of g s) (place_of g n)) _ _ (start_apart g (place_of g s) n ss (IsDistinct-head nat_eq (place_of g s) (map (place_of g) ss) one) there)
          ∙ found ss (IsDistinct-tail nat_eq (place_of g s) (map (place_of g) ss) one) there
    ]

-- where a step leads from, and the location to which it leads
abbrev pub landing : PlainGraph → ℕ × ℕ → ℕ × ℕ
landing g s = (s.0, place_of g s.1)

step_apart : (g : PlainGraph) (p : ℕ × ℕ) (m n : ℕ) (steps : List (ℕ × ℕ)) → AllByRecursion (λ q. same_pair p q ≡ false) (map (landing g) steps)
    → list_any (λ (s : ℕ × ℕ). eqb s.0 m && eqb s.1 n) steps ≡ true →
    (eqb p.0 m && eqb p.1 (place_of g n)) ≡ false
step_apart g p m n [] all h = absurd (cc)
step_apart g p m n (s ∷ ss) all h = elim (or_cases (eqb s.0 m && eqb s.1 n) _ h) [
  | inl here ↦ (
      let from : s.0 ≡ m = eqb-true s.0 m (and_parts (eqb s.0 m) (eqb s.1 n) here).0 in
      let to : s.1 ≡ n = eqb-true s.1 n (and_parts (eqb s.0 m) (eqb s.1 n) here).1 in
      rw (← from, ← to) all.0)
  | inr there ↦ step_apart g p m n ss all.1 there
]

pub step_at-step : (g : PlainGraph) (m n : ℕ) → IsDistinct same_pair (map (λ (s : ℕ × ℕ). (s.0, place_of g s.1)) g.steps) → has_step g m n ≡ true → step_at g m (place_of g n) ≡ Some n
step_at-step g m n one h = ap (λ found. option_map (λ (s : ℕ × ℕ). s.1) found) (found g.steps one h)
  where
    found : (steps : List (ℕ × ℕ)) → IsDistinct same_pair (map (landing g) steps) → list_any (λ (s : ℕ × ℕ). eqb s.0 m && eqb s.1 n) steps ≡ true →
        find (λ (s : ℕ × ℕ). eqb s.0 m && eqb (place_of g s.1) (place_of g n)) steps ≡ Some (m, n)
    found [] one h = absurd (cc)
    found (s ∷ ss) one h = elim (or_cases (eqb s.0 m && eqb s.1 n) _ h) [
      | inl here ↦ (
          let from : s.0 ≡ m = eqb-true s.0 m (and_parts (eqb s.0 m) (eqb s.1 n) here).0 in
          let to : s.1 ≡ n = eqb-true s.1 n (and_parts (eqb s.0 m) (eqb s.1 n) here).1 in
          cond-true (eqb s.0 m && eqb (place_of g s.1) (place_of g n)) _ _ (and_from _ _ (eq-eqb _ _ from) (eq-eqb _ _ (ap (place_of g) to))) ∙ rw (← from, ← to) refl)
      | inr there ↦ cond-false (eqb s.0 m && eqb (place_of g s.1) (place_of g n)) _ _ (step_apart g (landing g s) m n ss (IsDistinct-head same_pair (landing g s) (map (landing g) ss) one) there)
          ∙ found ss (IsDistinct-tail same_pair (landing g s) (map (landing g) ss) one) there
    ]
