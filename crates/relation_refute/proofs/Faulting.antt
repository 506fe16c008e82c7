-- The reasons for which pairs go.
use Rattle.std.proofs.Common.{◌≡◌, ℕ, ◌+◌, ◌<◌, Bool, true, false, not, ◌&&◌, eqb, List, length, get_or, Option, None, Some, arith, refl, sym, ap, subst, ◌∙◌, inl, inr}
use Rattle.std.specs.Option.{IfSome}
use Rattle.std.specs.Prelude.{is_some, option_map}
use Rattle.std.proofs.lemmas.Bool.{and_from, and_parts, both_ways, cases_Bool, cases_lt, cond-true, cond-false, eq-eqb, eqb-true, not-true, not_from_false, not_from_true, or_cases}
use Rattle.std.proofs.lemmas.List.Folds.{list_any_at}
use Rattle.graph_base.specs.Graphs.{PlainGraph, IsGraph}
use Rattle.net_base.specs.declared.loc.LocSet.{LocSet}
use Rattle.graph_base.specs.Least.{least_below}
use Rattle.graph_base.specs.Refuting.{HasSingleSteps}
use Rattle.graph_base.specs.Runs.{has_step, is_listener, place_of, rank_at}
use Rattle.graph_base.specs.declared.refutation.Why.{Why}
use Rattle.graph_base.specs.declared.refutation.Why.TheVariants.{NoStep, StepWorse, LoopWorse, ListenerWorse}
use Rattle.graph_base.proofs.Least.{least_exists, least_is_least, least_passes}
use Rattle.reach_prune.specs.Searches.{is_among}
use Rattle.relation_law.specs.Choosing.{Rests}
use Rattle.relation_law.specs.Reasons.{is_outranked, none as nobody, reason_at}
use Rattle.relation_law.proofs.Falling.{reason_where_failing}
use Rattle.relation_law.specs.Numbers.{any_below}
use Rattle.relation_law.specs.Relations.{no_worse, steps_on, is_heard}
use Rattle.relation_law.specs.Rounds.{fails, fails_at, has_answer, is_heard_there, same_place}
use Rattle.relation_law.specs.Views.{View, view_of}
use Rattle.relation_law.proofs.Tests.{any_at, any_found, none_below}
use Rattle.relation_refute.specs.Faults.{RestsOn, answers_there, hears_there}
use Rattle.state_simulation.specs.Looked.{shown}

-- ---- the least number

pub least_none : (n : ℕ) (p : ℕ → Bool) → ((k : ℕ) → k < n → p k ≡ false) → None ≡ least_below n p
least_none n p none = by (least_below n p) refl
  where
    by : (o : Option ℕ) → least_below n p ≡ o → None ≡ o
    by None e = refl
    by (Some k) e = (let low = least_passes n p k e in absurd (both_ways (p k) (none k low.0) low.1))

pub least_at : (n : ℕ) (p : ℕ → Bool) (k : ℕ) → k < n → p k ≡ true → ((j : ℕ) → j < k → p j ≡ false) → Some k ≡ least_below n p
least_at n p k lt e before =
    let found = least_exists n p k lt e in
    let low = least_passes n p found.0 found.1 in
    let le = least_is_least n p found.0 k found.1 lt e in
    elim (cases_lt found.0 k) [
      | inl t ↦ absurd (both_ways (p found.0) (before found.0 t) low.1)
      | inr t ↦ (let same : k ≡ found.0 = omega (arith, le, t) in ap (λ (z : ℕ). Some z) same ∙ sym found.1)
    ]

pub none_more : (p : ℕ → Bool) (k : ℕ) → ((j : ℕ) → j < k → p j ≡ false) → p k ≡ false → (j : ℕ) → j < k + 1 → p j ≡ false
none_more p k before here j lt = elim (cases_lt j k) [
  | inl t ↦ before j t
  | inr t ↦ (let same : j ≡ k = omega (arith, lt, t) in ap p same ∙ here)
]

-- ---- who hears, and who answers

-- a node that is listed among those to which m steps
pub step_at : (g : PlainGraph) (m : ℕ) (nodes : List ℕ) (i : ℕ) → ((s : ℕ) → is_among nodes s ≡ has_step g m s) → i < length nodes → has_step g m (get_or nodes i 0) ≡ true
step_at g m nodes i members lt = let s = get_or nodes i 0 in sym (members s) ∙ list_any_at (λ x. eqb x s) nodes i 0 lt (eq-eqb s s refl)

module _ (g : PlainGraph) (m t : ℕ) where
  abbrev V : View
  V = shown g

  pub heard_at : (s : ℕ) → s < length g.nodes → has_step g m s ≡ true → hears_there g s t ≡ true → is_heard_there V m t ≡ true
  heard_at s ls st e =
      let parts = and_parts (same_place V s t) (is_listener g s && no_worse (rank_at g s) (rank_at g t)) e in
      let more = and_parts (is_listener g s) (no_worse (rank_at g s) (rank_at g t)) parts.1 in
      any_at (length g.nodes) (λ s. is_heard V m s && (same_place V s t && no_worse (rank_at g s) (rank_at g t))) s ls
      (and_from _ _ (and_from (has_step g m s) (is_listener g s) st more.0) (and_from _ _ parts.0 more.1))

  pub heard_none : ((s : ℕ) → s < length g.nodes → has_step g m s ≡ true → hears_there g s t ≡ false) → is_heard_there V m t ≡ false
  heard_none none = none_below (length g.nodes) (λ s. is_heard V m s && (same_place V s t && no_worse (rank_at g s) (rank_at g t))) (λ s ls h.
      let parts = and_parts (is_heard V m s) (same_place V s t && no_worse (rank_at g s) (rank_at g t)) h in
      let one = and_parts (has_step g m s) (is_listener g s) parts.0 in
      let two = and_parts (same_place V s t) (no_worse (rank_at g s) (rank_at g t)) parts.1 in
      both_ways (hears_there g s t) (none s ls one.0) (and_from _ _ two.0 (and_from _ _ one.1 two.1)))

  pub answer_none : ((s : ℕ) → s < length g.nodes → has_step g m s ≡ true → answers_there g s t ≡ false) → has_answer V nobody m t ≡ false
  answer_none off = none_below (length g.nodes) (λ s. steps_on V m s && (same_place V s t && not (nobody s t))) (λ s ls h.
      let parts = and_parts (steps_on V m s) (same_place V s t && true) h in
      let one = and_parts (has_step g m s) (not (is_listener g s)) parts.0 in
      let two = and_parts (same_place V s t) true parts.1 in
      both_ways (answers_there g s t) (off s ls one.0) (and_from _ _ two.0 one.1))

  -- m has one answer at most, so whether it has one is whether that has gone
  pub answer_alone : HasSingleSteps g → (gone : ℕ → ℕ → Bool) (s : ℕ) → s < length g.nodes → steps_on V m s ≡ true → place_of g s ≡ place_of g t → has_answer V gone m t ≡ not (gone s t)
  answer_alone single gone s ls on place = elim (cases_Bool (gone s t)) [
    | inl e ↦ none_below (length g.nodes) (λ s. steps_on V m s && (same_place V s t && not (gone s t))) (λ k lk h.
        let parts = and_parts (steps_on V m k) (same_place V k t && not (gone k t)) h in
        let more = and_parts (same_place V k t) (not (gone k t)) parts.1 in
        let same : k ≡ s = single m k s (and_parts (has_step g m k) (not (is_listener g k)) parts.0).0 (and_parts (has_step g m s) (not (is_listener g s)) on).0 (eqb-true _ _ more.0 ∙ sym place) in
        both_ways (gone s t) (ap (λ z. gone z t) (sym same) ∙ not-true (gone k t) more.1) e) ∙ sym (ap not e)
    | inr e ↦ any_at (length g.nodes) (λ s. steps_on V m s && (same_place V s t && not (gone s t))) s ls (and_from _ _ on (and_from _ _ (eq-eqb _ _ place) (ap not e))) ∙ sym (ap not e)
  ]

  -- ---- the reason at a step to t

  module _ (reach gone : ℕ → ℕ → Bool) where
    pub reason_heard : is_listener g t ≡ true → is_heard_there V m t ≡ true → None ≡ reason_at V reach gone m t
    reason_heard l e = sym (cond-true (is_listener g t) _ _ l ∙ cond-true (is_heard_there V m t) _ _ e)

    pub reason_deaf : is_listener g t ≡ true → is_heard_there V m t ≡ false → Some (ListenerWorse (place_of g t)) ≡ reason_at V reach gone m t
    reason_deaf l e = sym (cond-true (is_listener g t) _ _ l ∙ cond-false (is_heard_there V m t) _ _ e)

    pub reason_alone : is_listener g t ≡ false → has_answer V nobody m t ≡ false → Some (NoStep (place_of g t)) ≡ reason_at V reach gone m t
    reason_alone l e = sym (cond-false (is_listener g t) _ _ l ∙ cond-true (not (has_answer V nobody m t)) _ _ (not_from_false _ e))

    -- where s answers
    module _ (l : is_listener g t ≡ false) (single : HasSingleSteps g) (s : ℕ) (answers : (s < length g.nodes) × (steps_on V m s ≡ true) × (place_of g s ≡ place_of g t)) where
      answered : has_answer V nobody m t ≡ true
      answered = answer_alone single nobody s answers.0 answers.1 answers.2

      still : has_answer V gone m t ≡ not (gone s t)
      still = answer_alone single gone s answers.0 answers.1 answers.2

      pub reason_step : gone s t ≡ true → Some (StepWorse (place_of g t)) ≡ reason_at V reach gone m t
      reason_step went =
          sym (cond-false (is_listener g t) _ _ l ∙ cond-false (not (has_answer V nobody m t)) _ _ (not_from_true _ answered)
          ∙ cond-true (not (has_answer V gone m t)) _ _ (not_from_false _ (still ∙ ap not went)))

      pub reason_loop : gone s t ≡ false → option_map (LoopWorse (place_of g t)) (least_below (length g.nodes) (λ k. same_place V k t && (reach k m && gone k t))) ≡ reason_at V reach gone m t
      reason_loop stays =
          sym (cond-false (is_listener g t) _ _ l ∙ cond-false (not (has_answer V nobody m t)) _ _ (not_from_true _ answered)
          ∙ cond-false (not (has_answer V gone m t)) _ _ (not_from_true _ (still ∙ ap not stays)))

-- the node that answers, if there is one
pub answers : (g : PlainGraph) (m t : ℕ) {s : ℕ} {o : Option ℕ} → o ≡ Some s
    → IfSome o (λ s. (s < length g.nodes) × (steps_on (shown g) m s ≡ true) × (place_of g s ≡ place_of g t))
    → (s < length g.nodes) × (steps_on (shown g) m s ≡ true) × (place_of g s ≡ place_of g t)
answers g m t e h = subst (λ (o : Option ℕ). IfSome o (λ s. (s < length g.nodes) × (steps_on (shown g) m s ≡ true) × (place_of g s ≡ place_of g t))) e h

-- ---- on what a reason rests

pub alone_rests : (v : View) (m n : ℕ) (why : Why) → ((a b : ℕ) → Rests v m n why a b → ⊥) → RestsOn v m n (record { why = why; rests = None })
alone_rests v m n why never = record { some = tt; none = never }

module _ (g : PlainGraph) (m n t : ℕ) (st : has_step g n t ≡ true) (l : is_listener g t ≡ false) where
  on : steps_on (shown g) n t ≡ true
  on = and_from (has_step g n t) (not (is_listener g t)) st (not_from_false _ l)

  pub step_rests : (s : ℕ) → steps_on (shown g) m s ≡ true → place_of g s ≡ place_of g t → RestsOn (shown g) m n (record { why = StepWorse (place_of g t); rests = Some (s, t) })
  step_rests s steps place = record { some = (steps, place, on, refl); none = tt }

  pub loop_rests : (k : ℕ) → RestsOn (shown g) m n (record { why = LoopWorse (place_of g t) k; rests = Some (k, t) })
  loop_rests k = record { some = (refl, on, refl); none = tt }

-- ---- a pair for which a rule fails, and not that of the ranks, has a step at which there is a reason

pub some_fails : (g : PlainGraph) (claimed : LocSet) (ok : IsGraph g) (reach gone : ℕ → ℕ → Bool) (m n : ℕ)
    → fails (view_of g claimed) reach gone m n ≡ true → is_outranked (view_of g claimed) m n ≡ false →
    ((t : ℕ) → has_step g n t ≡ true → is_some (reason_at (shown g) reach gone m t) ≡ false) → ⊥
some_fails g claimed ok reach gone m n h off none =
    elim (or_cases (is_outranked (view_of g claimed) m n)
    (any_below (length g.nodes) (λ t. has_step g n t && fails_at (view_of g claimed) reach gone m t)) h) [
      | inl e ↦ both_ways _ off e
      | inr e ↦ (
          let x = any_found (length g.nodes) (λ t. has_step g n t && fails_at (view_of g claimed) reach gone m t) e in
          let parts = and_parts (has_step g n x.0) (fails_at (view_of g claimed) reach gone m x.0) x.2 in
          both_ways _ (none x.0 parts.0) (reason_where_failing g claimed ok reach gone m x.0 ∙ parts.1))
    ]
