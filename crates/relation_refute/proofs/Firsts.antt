-- The first of the nodes that pass a test, by location.
use Rattle.std.proofs.Common.{◌≡◌, ℕ, ◌+◌, ◌<◌, ◌≤◌, Bool, true, false, ◌&&◌, eqb, ltb, List, length, Option, None, Some, get_or, take, arith, refl, sym, ap, subst, ◌∙◌, inl, inr, ◌⊎◌}
use Rattle.std.specs.Option.{IfNone, IfSome}
use Rattle.std.specs.Prelude.{is_some}
use Rattle.std.proofs.lemmas.Bool.{and_parts, both_ways, cases_lt, eqb-true, false_from_ne_true, lt-ltb, ltb-true, or_cases}
use Rattle.std.proofs.lemmas.Option.{none-some, same_Some}
use Rattle.graph_base.specs.Graphs.{PlainGraph}
use Rattle.graph_base.specs.Runs.{has_step, place_of}
use Rattle.reach_prune.specs.Searches.{is_among}
use Rattle.relation_law.specs.Reasons.{IsFirstFailing, reason_at}
use Rattle.relation_refute.specs.Faults.{stands_before}
use Rattle.state_simulation.specs.Looked.{shown}
use Rattle.state_simulation.proofs.Masking.{among_more}

module _ (g : PlainGraph) where
  before_that : (s f : ℕ) (first : Option ℕ) → first ≡ Some f → stands_before g s first ≡ true → place_of g s < place_of g f
  before_that s f None e h = absurd (cc)
  before_that s f (Some k) e h = (let same : k ≡ f = cc in ltb-true _ _ (ap (λ z. ltb (place_of g s) (place_of g z)) (sym same) ∙ h))

  not_before : (s : ℕ) (first : Option ℕ) → stands_before g s first ≡ false → (f : ℕ) × (first ≡ Some f) × (place_of g f ≤ place_of g s)
  not_before s None h = absurd (cc)
  not_before s (Some f) h = (
    f,
    refl,
    elim (cases_lt (place_of g s) (place_of g f)) [
      | inl t ↦ absurd (both_ways _ h (lt-ltb _ _ t))
      | inr t ↦ t
    ],
  )

module _ (g : PlainGraph) (p : ℕ → Bool) where
  -- of the nodes of a list that pass, none stands before the first one
  abbrev pub IsFirstOf : List ℕ → Option ℕ → Type 0
  IsFirstOf nodes first = (u : ℕ) → is_among nodes u ≡ true → p u ≡ true → (f : ℕ) × (first ≡ Some f) × (place_of g f ≤ place_of g u)

  module _ (nodes : List ℕ) (i : ℕ) (first : Option ℕ) (lt : i < length nodes) (least : IsFirstOf (take i nodes) first) where
    pub taken_first : (p (get_or nodes i 0) && stands_before g (get_or nodes i 0) first) ≡ true → IsFirstOf (take (i + 1) nodes) (Some (get_or nodes i 0))
    taken_first h u among passes =
        let s : ℕ = get_or nodes i 0 in
        let parts = and_parts (p s) (stands_before g s first) h in
        elim (or_cases (is_among (take i nodes) u) (eqb u s) (sym (among_more nodes i u lt) ∙ among)) [
          | inl e ↦ (
              let x = least u e passes in
              let less = before_that g s x.0 first x.1 parts.1 in
              (s, refl, omega (arith, less, x.2)))
          | inr e ↦ (let same : u ≡ s = eqb-true u s e in let place : place_of g u ≡ place_of g s = ap (place_of g) same in (s, refl, omega (arith, place)))
        ]

    pub kept_first : (p (get_or nodes i 0) && stands_before g (get_or nodes i 0) first) ≡ false → IsFirstOf (take (i + 1) nodes) first
    kept_first h u among passes =
        let s : ℕ = get_or nodes i 0 in
        elim (or_cases (is_among (take i nodes) u) (eqb u s) (sym (among_more nodes i u lt) ∙ among)) [
          | inl e ↦ least u e passes
          | inr e ↦ (
              let same : u ≡ s = eqb-true u s e in
              let off : stands_before g s first ≡ false = sym (ap (λ z. z && stands_before g s first) (ap p (sym same) ∙ passes)) ∙ h in
              let x = not_before g s first off in
              let place : place_of g u ≡ place_of g s = ap (place_of g) same in
              (x.0, x.1, omega (arith, x.2, place)))
        ]

-- ---- by location, and there by number

module _ (g : PlainGraph) (P : ℕ → Type 0) where
  -- of the numbers below a bound that pass, none comes before the first one
  abbrev pub IsFirstBelow : ℕ → Option ℕ → Type 0
  IsFirstBelow n first = (k : ℕ) → k < n → P k → (f : ℕ) × (first ≡ Some f) × ((place_of g f < place_of g k) ⊎ (place_of g f ≡ place_of g k) × (f ≤ k))

  module _ (n : ℕ) (first : Option ℕ) (before : IsFirstBelow n first) where
    pub taken_next : stands_before g n first ≡ true → IsFirstBelow (n + 1) (Some n)
    taken_next h k lk pk = elim (cases_lt k n) [
      | inl t ↦ (let x = before k t pk in (n, refl, inl (less x.0 (before_that g n x.0 first x.1 h) x.2)))
      | inr t ↦ (let same : n ≡ k = omega (arith, lk, t) in (n, refl, inr (ap (place_of g) same, omega (arith, same))))
    ]
      where
        less : (f : ℕ) → place_of g n < place_of g f → (place_of g f < place_of g k) ⊎ (place_of g f ≡ place_of g k) × (f ≤ k) → place_of g n < place_of g k
        less f up (inl down) = omega (arith, up, down)
        less f up (inr down) = (let place = down.0 in omega (arith, up, place))

    pub kept_next : IfSome first (λ f. f < n) → (P n → stands_before g n first ≡ false) → IsFirstBelow (n + 1) first
    kept_next under off k lk pk = elim (cases_lt k n) [
      | inl t ↦ before k t pk
      | inr t ↦ (
          let same : k ≡ n = omega (arith, lk, t) in
          let x = not_before g n first (off (subst P same pk)) in
          let low : x.0 < n = subst (λ (o : Option ℕ). IfSome o (λ f. f < n)) x.1 under in
          let place : place_of g k ≡ place_of g n = ap (place_of g) same in
          (x.0, x.1, order x.0 k low x.2 place same))
    ]
      where
        order : (f k : ℕ) → f < n → place_of g f ≤ place_of g n → place_of g k ≡ place_of g n → k ≡ n → (place_of g f < place_of g k) ⊎ (place_of g f ≡ place_of g k) × (f ≤ k)
        order f k low le place same = elim (cases_lt (place_of g f) (place_of g k)) [
          | inl t ↦ inl t
          | inr t ↦ inr (omega (arith, le, place, t), omega (arith, low, same))
        ]

-- ---- the first step at which there is a reason

module _ (g : PlainGraph) (reach gone : ℕ → ℕ → Bool) (m n : ℕ) (nodes : List ℕ) (members : (t : ℕ) → is_among nodes t ≡ has_step g n t) where
  abbrev pub Hit : ℕ → Bool
  Hit t = is_some (reason_at (shown g) reach gone m t)

  pub failing_first : (first : Option ℕ) → IfSome first (λ f. (has_step g n f ≡ true) × (Hit f ≡ true)) → IsFirstOf g Hit nodes first → IfSome first (IsFirstFailing (shown g) reach gone m n)
  failing_first None some least = tt
  failing_first (Some f) some least = record {
    step = some.0;
    fails = some.1;
    first = λ u st hit. (
        let x = least u (members u ∙ st) hit in
        let same : f ≡ x.0 = same_Some f x.0 x.1 in
        let place : place_of g f ≡ place_of g x.0 = ap (place_of g) same in
        omega (arith, place, x.2));
  }

  pub failing_none : (first : Option ℕ) → IsFirstOf g Hit nodes first → IfNone first ((t : ℕ) → has_step g n t ≡ true → Hit t ≡ false)
  failing_none None least = λ t st. false_from_ne_true _ (λ hit. let x = least t (members t ∙ st) hit in none-some x.0 x.1)
  failing_none (Some f) least = tt

pub is_there : {A : Type 0} (o : Option A) {P : Type 0} → IfNone o P → (P → ⊥) → is_some o ≡ true
is_there None none never = absurd (never none)
is_there (Some x) none never = refl
