-- Nodes before a node, and the walk over them.
use Rattle.std.proofs.Common.{◌≡◌, ◌⊎◌, ℕ, ◌+◌, ◌<◌, ◌≤◌, min, Bool, true, false, ◌&&◌, ◌||◌, eqb, List, [], ◌∷◌, length, take, get_or, set, refl, sym, ap, ◌∙◌, subst, inl, inr, arith}
use Rattle.std.proofs.lemmas.Bool.{and_from, and_parts, both_ways, cases_eq, cases_lt, eq-eqb, eqb-true, or_cases, or_left, or_right}
use Rattle.std.proofs.lemmas.List.{get_or-set_same, get_or-set_other, get_or_read, take_all}
use Rattle.std.proofs.lemmas.List.Folds.{list_any_more}
use Rattle.std.specs.List.{list_any}
use Rattle.graph_base.proofs.StartsAndSteps.{step_nodes}
use Rattle.graph_base.specs.Graphs.{PlainGraph, IsGraph}
use Rattle.graph_base.specs.Runs.{has_step, is_start, place_of}
use Rattle.graph_base.specs.Walks.{IsEnteredFromBefore, IsFirstBefore, IsShownWalk}

-- some step leads from m to n
abbrev pub leads : List (ℕ × ℕ) → ℕ → ℕ → Bool
leads steps m n = list_any (λ (s : ℕ × ℕ). eqb s.0 m && eqb s.1 n) steps

-- first is the least-numbered node from which one of these steps leads to n, or the greatest number where none does
pub record IsLeast (steps : List (ℕ × ℕ)) (n first : ℕ) : Type 0 where
  pub step : first < 4294967295 → leads steps first n ≡ true
  pub least : (m : ℕ) → leads steps m n ≡ true → first ≤ m

-- one more step, with the least of what was found and of its node where it leads to n
least_more : (steps : List (ℕ × ℕ)) (i n first new : ℕ) (s : ℕ × ℕ) → i < length steps → s ≡ get_or steps i (0, 0) → IsLeast (take i steps) n first
    → new ≤ first → (s.1 ≡ n → new ≤ s.0) → (new ≡ first) ⊎ ((new ≡ s.0) × (s.1 ≡ n)) →
    IsLeast (take (i + 1) steps) n new
least_more steps i n first new s within is old below here kind = record { step = step; least = least }
  where
    more : (m : ℕ) → leads (take (i + 1) steps) m n ≡ (leads (take i steps) m n || (eqb s.0 m && eqb s.1 n))
    more m =
        list_any_more (λ (t : ℕ × ℕ). eqb t.0 m && eqb t.1 n) steps i (0, 0) within
        ∙ ap (λ (t : ℕ × ℕ). leads (take i steps) m n || (eqb t.0 m && eqb t.1 n)) (sym is)

    step : new < 4294967295 → leads (take (i + 1) steps) new n ≡ true
    step low = elim kind [
      | inl same ↦ more new ∙ or_left _ _ (ap (λ m. leads (take i steps) m n) same ∙ old.step (omega (arith, same, low)))
      | inr this ↦ more new ∙ or_right _ _ (and_from _ _ (eq-eqb s.0 new (sym this.0)) (eq-eqb s.1 n this.1))
    ]

    least : (m : ℕ) → leads (take (i + 1) steps) m n ≡ true → new ≤ m
    least m h = elim (or_cases (leads (take i steps) m n) _ (sym (more m) ∙ h)) [
      | inl earlier ↦ omega (arith, old.least m earlier, below)
      | inr this ↦ let parts = and_parts (eqb s.0 m) (eqb s.1 n) this in omega (arith, eqb-true s.0 m parts.0, here (eqb-true s.1 n parts.1))
    ]

-- for each node the least-numbered node from which one of the first i steps leads to it
abbrev pub AreLeast : PlainGraph → ℕ → List ℕ → Type 0
AreLeast g i firsts = (n : ℕ) → n < length g.nodes → IsLeast (take i g.steps) n (get_or firsts n 0)

pub least_next : (g : PlainGraph) (steps : List (ℕ × ℕ)) (firsts : List ℕ) (i was new : ℕ) → steps ≡ g.steps → i < length steps → length firsts ≡ length g.nodes
    → (let s : ℕ × ℕ = get_or steps i (0, 0) in (was ≡ get_or firsts s.1 was) × (new ≡ min was s.0))
    → AreLeast g i firsts →
    AreLeast g (i + 1) (set firsts (get_or steps i (0, 0)).1 new)
least_next g steps firsts i was new whole below size is old n node = elim (cases_eq s.1 n) [
  | inl here ↦ (
      let low : s.1 < length firsts = omega (arith, here, node, size) in
      let there : get_or (set firsts s.1 new) n 0 ≡ new = ap (λ k. get_or (set firsts s.1 new) k 0) (sym here) ∙ get_or-set_same firsts s.1 new 0 low in
      let first : was ≡ get_or firsts n 0 = get_or_read firsts s.1 was low is.0 0 ∙ ap (λ k. get_or firsts k 0) here in
      subst (IsLeast (take (i + 1) g.steps) n) (sym there)
      (least_more g.steps i n (get_or firsts n 0) new s within step (old n node) (omega (arith, is.1, first)) (λ _. omega (arith, is.1)) (kind first here)))
  | inr apart ↦
      subst (IsLeast (take (i + 1) g.steps) n) (sym (get_or-set_other firsts s.1 n new 0 (λ e. apart (sym e))))
      (least_more g.steps i n (get_or firsts n 0) (get_or firsts n 0) s within step (old n node) (omega arith) (λ e. absurd (apart e)) (inl refl))
]
  where
    s : ℕ × ℕ
    s = get_or steps i (0, 0)

    within : i < length g.steps
    within = omega (arith, below, ap length whole)

    step : s ≡ get_or g.steps i (0, 0)
    step = ap (λ xs. get_or xs i (0, 0)) whole

    kind : was ≡ get_or firsts n 0 → s.1 ≡ n → (new ≡ get_or firsts n 0) ⊎ ((new ≡ s.0) × (s.1 ≡ n))
    kind first here = elim (cases_lt s.0 was) [
      | inl less ↦ inr (omega (arith, is.1, less), here)
      | inr more ↦ inl (omega (arith, is.1, more, first))
    ]

-- the first node before n, as some node steps to n
pub least_first : (g : PlainGraph) (steps : List (ℕ × ℕ)) (firsts : List ℕ) (i m n : ℕ) → IsGraph g → steps ≡ g.steps → length steps ≤ i → AreLeast g i firsts → has_step g m n ≡ true →
    IsFirstBefore g (get_or firsts n 0) n
least_first g steps firsts i m n rules whole done are h =
    let nodes = step_nodes g m n rules h in
    let few : length g.nodes ≤ 4294967000 = rules.count in
    let l : IsLeast g.steps n (get_or firsts n 0) = rw (take_all i g.steps (omega (arith, ap length whole, done))) at are n nodes.1 in
    (l.step (omega (arith, l.least m h, nodes.0, few)), l.least)

pub before_inner : (g : PlainGraph) (n : ℕ) → IsEnteredFromBefore g → n < length g.nodes → is_start g n ≡ false → (m : ℕ) × (m < n) × (has_step g m n ≡ true)
before_inner g n entered lt inner = elim (entered n lt) [ inl start ↦ absurd (both_ways _ inner start) | inr before ↦ before ]

-- a node before the walk's last
pub shown_back : (g : PlainGraph) (last before : ℕ) (rest : List ℕ) → is_start g last ≡ false → IsFirstBefore g before last → IsShownWalk g before rest → IsShownWalk g last (place_of g last ∷ rest)
shown_back g last before [] inner first walk = absurd walk
shown_back g last before (k ∷ ls) inner first walk = (inner, refl, (before, first, walk))
