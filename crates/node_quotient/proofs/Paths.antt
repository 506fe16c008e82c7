-- Paths of at most so many places that tell two nodes apart.
use Rattle.std.proofs.Common.{◌≡◌, ◌≢◌, ◌⊎◌, ℕ, zero, suc, ◌+◌, ◌-◌, ◌<◌, ◌≤◌, Bool, true, false, not, List, [], ◌∷◌, ◌++◌, length, option_map, option_and_then, Option}
use Rattle.std.proofs.Common.{Some, None, refl, sym, ap, ◌∙◌, subst, inl, inr, arith}
use Rattle.std.specs.Prelude.{◌||◌, is_some, nat_eq}
use Rattle.std.specs.Option.{option_eq}
use Rattle.std.proofs.lemmas.Bool.{both_ways, false_from_ne_true, not-false, not-true, or_cases, or_parts}
use Rattle.std.proofs.lemmas.List.{length-append}
use Rattle.list_law.proofs.Options.{is-option_eq, is_some_from, is_some_parts, none_or_some, option_eq-is}
use Rattle.graph_base.specs.Graphs.{PlainGraph, IsGraph}
use Rattle.graph_base.specs.Least.{least_below}
use Rattle.graph_base.specs.Runs.{place_of, rank_at, step_at}
use Rattle.graph_base.proofs.Least.{least_exists, least_passes}
use Rattle.graph_base.proofs.StartsAndSteps.{step_at-is, step_nodes}
use Rattle.node_quotient.specs.Quotient.{follow, end_of}
use Rattle.node_quotient.proofs.Least.{follow_on}

-- one node alone, or two that are apart
abbrev differ : (ℕ → ℕ → Bool) → Option ℕ → Option ℕ → Bool
differ apart None None = false
differ apart None (Some b) = true
differ apart (Some a) None = true
differ apart (Some a) (Some b) = apart a b

module _ (g : PlainGraph) (ok : IsGraph g) where
  abbrev ranks_differ : ℕ → ℕ → Bool
  ranks_differ m n = not (option_eq nat_eq (rank_at g m) (rank_at g n))

  -- the steps to the location of a node
  abbrev steps_differ : (ℕ → ℕ → Bool) → ℕ → ℕ → ℕ → Bool
  steps_differ apart m n t = differ apart (step_at g m (place_of g t)) (step_at g n (place_of g t))

  -- a path of at most so many places tells two nodes apart
  abbrev pub apart : ℕ → ℕ → ℕ → Bool
  apart zero m n = ranks_differ m n
  apart (suc k) m n = ranks_differ m n || is_some (least_below (length g.nodes) (steps_differ (apart k) m n))

  -- the path
  abbrev pub Path : ℕ → ℕ → ℕ → Type 0
  Path k m n = (path : List ℕ) × (length path ≤ k) × (end_of g m path ≢ end_of g n path)

  by_rank : (k m n : ℕ) → ranks_differ m n ≡ true → Path k m n
  by_rank k m n h = (
    [],
    omega arith,
    λ e. let same : rank_at g m ≡ rank_at g n = cc in both_ways _ (not-true _ h) (is-option_eq (rank_at g m) (rank_at g n) same),
  )

  by_steps : (k m n l : ℕ) → ((a b : ℕ) → apart k a b ≡ true → Path k a b) → (o : Option ℕ) → step_at g m l ≡ o → (p : Option ℕ) → step_at g n l ≡ p
      → differ (apart k) o p ≡ true → Path (suc k) m n
  by_steps k m n l on None h None i d = absurd (cc)
  by_steps k m n l on None h (Some b) i d =
      (l ∷ [], omega arith, λ e. none_or_some (end_of g n (l ∷ [])) (rank_at g b) (sym e ∙ ap (option_map (rank_at g)) h) (ap (option_map (rank_at g)) i))
  by_steps k m n l on (Some a) h None i d =
      (l ∷ [], omega arith, λ e. none_or_some (end_of g m (l ∷ [])) (rank_at g a) (e ∙ ap (option_map (rank_at g)) i) (ap (option_map (rank_at g)) h))
  by_steps k m n l on (Some a) h (Some b) i d =
      let p = on a b d in
      let short = p.1 in
      let long = length-append p.0 (l ∷ []) in (
        p.0 ++ l ∷ [],
        omega (arith, short, long),
        λ e. p.2
            (sym (ap (option_map (rank_at g)) (follow_on g m l a h p.0)) ∙ e ∙ ap (option_map (rank_at g)) (follow_on g n l b i p.0)),
      )

  pub path_apart : (k m n : ℕ) → apart k m n ≡ true → Path k m n
  path_apart zero m n h = by_rank zero m n h
  path_apart (suc k) m n h = elim (or_cases (ranks_differ m n) (is_some (least_below (length g.nodes) (steps_differ (apart k) m n))) h) [
    | inl r ↦ by_rank (suc k) m n r
    | inr s ↦
        let t = is_some_parts (least_below (length g.nodes) (steps_differ (apart k) m n)) s in
        let d = (least_passes (length g.nodes) (steps_differ (apart k) m n) t.0 t.1).1 in
        by_steps k m n (place_of g t.0) (path_apart k) (step_at g m (place_of g t.0)) refl (step_at g n (place_of g t.0)) refl d
  ]

  same_ranks : (m n : ℕ) → ranks_differ m n ≡ false → rank_at g m ≡ rank_at g n
  same_ranks m n h = option_eq-is (rank_at g m) (rank_at g n) (not-false _ h)

  pub ranks_alike : (k m n : ℕ) → apart k m n ≡ false → rank_at g m ≡ rank_at g n
  ranks_alike zero m n h = same_ranks m n h
  ranks_alike (suc k) m n h = same_ranks m n (or_parts (ranks_differ m n) _ h).0

  -- no node in both, or one in each that aren't apart
  abbrev Both : (ℕ → ℕ → Bool) → Option ℕ → Option ℕ → Type 0
  Both apart o p = ((o ≡ None) × (p ≡ None)) ⊎ ((a b : ℕ) × (o ≡ Some a) × (p ≡ Some b) × (a < length g.nodes) × (b < length g.nodes) × (apart a b ≡ false))

  steps_both : (k m n l : ℕ) → apart (suc k) m n ≡ false → Both (apart k) (step_at g m l) (step_at g n l)
  steps_both k m n l h = by (step_at g m l) refl (step_at g n l) refl
    where
      none : (t : ℕ) → t < length g.nodes → place_of g t ≡ l → differ (apart k) (step_at g m l) (step_at g n l) ≡ false
      none t lt place = false_from_ne_true _ (λ d.
          let f = least_exists (length g.nodes) (steps_differ (apart k) m n) t lt (subst (λ x. differ (apart k) (step_at g m x) (step_at g n x) ≡ true) (sym place) d) in
          both_ways _ (or_parts (ranks_differ m n) _ h).1 (is_some_from (least_below (length g.nodes) (steps_differ (apart k) m n)) f.0 f.1))

      at : (x a : ℕ) → step_at g x l ≡ Some a → (a < length g.nodes) × (differ (apart k) (step_at g m l) (step_at g n l) ≡ false)
      at x a e = let s = step_at-is g x l a e in let lt = (step_nodes g x a ok s.0).1 in (lt, none a lt s.1)

      by : (o : Option ℕ) → step_at g m l ≡ o → (p : Option ℕ) → step_at g n l ≡ p → Both (apart k) (step_at g m l) (step_at g n l)
      by None i None j = inl (i, j)
      by (Some a) i (Some b) j =
          let s = at m a i in
          inr (a, b, i, j, s.0, (at n b j).0, sym (ap (λ o. differ (apart k) o (Some b)) i) ∙ sym (ap (differ (apart k) (step_at g m l)) j) ∙ s.1)
      by (Some a) i None j =
          let clash : true ≡ false = sym (ap (λ o. differ (apart k) o None) i) ∙ sym (ap (differ (apart k) (step_at g m l)) j) ∙ (at m a i).1 in
          absurd (cc)
      by None i (Some b) j =
          let clash : true ≡ false = sym (ap (λ o. differ (apart k) o (Some b)) i) ∙ sym (ap (differ (apart k) (step_at g m l)) j) ∙ (at n b j).1 in
          absurd (cc)

  -- where nodes that aren't apart step to nodes that aren't, by a count that falls with each step
  module _ (far : ℕ → ℕ → ℕ → Bool) (ranks : (j m n : ℕ) → far j m n ≡ false → rank_at g m ≡ rank_at g n)
      (steps : (j m n l : ℕ) → m < length g.nodes → n < length g.nodes → far (suc j) m n ≡ false → Both (far j) (step_at g m l) (step_at g n l)) where
    follow_both : (path : List ℕ) (j m n : ℕ) → m < length g.nodes → n < length g.nodes → far (length path + j) m n ≡ false → Both (far j) (follow g m path) (follow g n path)
    follow_both [] j m n lm ln h =
        let here : 0 + j ≡ j = omega arith in
        inr (m, n, refl, refl, lm, ln, ap (λ i. far i m n) (sym here) ∙ h)
    follow_both (l ∷ ls) j m n lm ln h =
        let on : length (l ∷ ls) + j ≡ length ls + suc j = omega arith in
        elim (follow_both ls (suc j) m n lm ln (ap (λ i. far i m n) (sym on) ∙ h)) [
          | inl none ↦ inl (ap (option_and_then (λ x. step_at g x l)) none.0, ap (option_and_then (λ x. step_at g x l)) none.1)
          | inr b ↦
              let one = ap (option_and_then (λ x. step_at g x l)) b.2 in
              let two = ap (option_and_then (λ x. step_at g x l)) b.3 in
              elim (steps j b.0 b.1 l b.4 b.5 b.6) [
                | inl none ↦ inl (one ∙ none.0, two ∙ none.1)
                | inr c ↦ inr (c.0, c.1, one ∙ c.2, two ∙ c.3, c.4, c.5, c.6)
              ]
        ]

    pub ends_both : (path : List ℕ) (j m n : ℕ) → m < length g.nodes → n < length g.nodes → far (length path + j) m n ≡ false → end_of g m path ≡ end_of g n path
    ends_both path j m n lm ln h = elim (follow_both path j m n lm ln h) [
      | inl none ↦ ap (option_map (rank_at g)) none.0 ∙ sym (ap (option_map (rank_at g)) none.1)
      | inr b ↦ ap (option_map (rank_at g)) b.2 ∙ ap Some (ranks j b.0 b.1 b.6) ∙ sym (ap (option_map (rank_at g)) b.3)
    ]

  -- all paths of at most so many places end alike from two nodes
  abbrev pub EndAlike : ℕ → ℕ → ℕ → Type 0
  EndAlike k m n = (path : List ℕ) → length path ≤ k → end_of g m path ≡ end_of g n path

  pub ends_alike : (k m n : ℕ) → m < length g.nodes → n < length g.nodes → apart k m n ≡ false → EndAlike k m n
  ends_alike k m n lm ln h path short =
      let on : length path + (k - length path) ≡ k = omega (arith, short) in
      ends_both apart ranks_alike (λ j a b l la lb. steps_both j a b l) path (k - length path) m n lm ln (ap (λ i. apart i m n) on ∙ h)

  pub not_apart : (k m n : ℕ) → EndAlike k m n → apart k m n ≡ false
  not_apart k m n h = false_from_ne_true _ (λ t. let p = path_apart k m n t in p.2 (h p.0 p.1))

  -- where longer paths tell no more nodes apart, no path does
  pub none_longer : (k : ℕ) → ((m n : ℕ) → m < length g.nodes → n < length g.nodes → apart k m n ≡ false → apart (suc k) m n ≡ false)
      → (m n : ℕ) → m < length g.nodes → n < length g.nodes → apart k m n ≡ false → (path : List ℕ) → end_of g m path ≡ end_of g n path
  none_longer k no_more m n lm ln h path =
      ends_both (λ j. apart k) (λ j. ranks_alike k) (λ j a b l la lb e. steps_both k a b l (no_more a b la lb e)) path 0 m n lm ln h
