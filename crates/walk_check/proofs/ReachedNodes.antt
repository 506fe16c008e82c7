-- A node can be reached from a start exactly where some run ends in it.
use Rattle.std.proofs.Common.{◌≡◌, ℕ, zero, suc, ◌<◌, Bool, true, false, List, [], ◌∷◌, ◌++◌, length, get_or, set, Some, refl, sym, ap, ◌∙◌, inl, inr, arith}
use Rattle.std.specs.Prelude.{not, option_and_then, ◌&&◌, ◌==◌}
use Rattle.std.specs.List.{list_any}
use Rattle.std.proofs.Math.Bool.{beq}
use Rattle.std.proofs.lemmas.Bool.{and_from, cases_eq, eq-eqb, false≢true}
use Rattle.std.proofs.lemmas.List.{get_or-set_other}
use Rattle.std.proofs.lemmas.List.Folds.{list_any_at}
use Rattle.list_law.proofs.Options.{option_and_then_parts}
use Rattle.graph_base.specs.Graphs.{PlainGraph}
use Rattle.graph_base.specs.Runs.{has_step, place_of, step_at, run, IsTrail}
use Rattle.graph_base.proofs.Determined.{start_at-start, step_at-step}
use Rattle.reach_prune.specs.Searches.{is_marked}
use Rattle.reach_prune.proofs.Trails.{trail_more}
use Rattle.graph_base.proofs.StartsAndSteps.{start_at-is, step_at-is}
use Rattle.walk_check.specs.Alike.{IsSingleStepped}
use Rattle.walk_check.specs.Formed.{CanBeReached}

module _ (g : PlainGraph) where
  reached_on : (path : List ℕ) (m n : ℕ) (via : List ℕ) → run g path ≡ Some m → IsTrail g m via n → CanBeReached g n
  reached_on [] m n via h t = absurd cc
  reached_on (l ∷ []) m n via h t = (m, (start_at-is g l m h).0, (via, t))
  reached_on (l ∷ k ∷ ls) m n via h t =
      let last = option_and_then_parts (λ a. step_at g a l) (run g (k ∷ ls)) m h in
      reached_on (k ∷ ls) last.0 n (m ∷ via) last.1 ((step_at-is g last.0 l m last.2).0, t)

  pub reached_from_run : (path : List ℕ) (n : ℕ) → run g path ≡ Some n → CanBeReached g n
  reached_from_run path n h = reached_on path n n [] h refl

  run_on : IsSingleStepped g → (via : List ℕ) (a n l : ℕ) (ls : List ℕ) → run g (l ∷ ls) ≡ Some a → IsTrail g a via n → (path : List ℕ) × (run g path ≡ Some n)
  run_on single [] a n l ls h t = (l ∷ ls, h ∙ ap Some t)
  run_on single (c ∷ cs) a n l ls h t =
      run_on single cs c n (place_of g c) (l ∷ ls) (ap (option_and_then (λ m. step_at g m (place_of g c))) h ∙ step_at-step g a c single.one_step t.0) t.1

  pub run_from_reached : IsSingleStepped g → (n : ℕ) → CanBeReached g n → (path : List ℕ) × (run g path ≡ Some n)
  run_from_reached single n r = run_on single r.2.0 r.0 n (place_of g r.0) [] (start_at-start g r.0 single.one_start r.1) r.2.1

-- none is false where each is marked, and conversely
pub marked_from_none : (marks : List Bool) → not (list_any (λ m. beq m false) marks) ≡ true → (n : ℕ) → n < length marks → is_marked marks n ≡ true
marked_from_none [] h n lt = absurd (omega (arith, lt))
marked_from_none (true ∷ ms) h zero lt = refl
marked_from_none (true ∷ ms) h (suc n) lt = marked_from_none ms h n (omega (arith, lt))
marked_from_none (false ∷ ms) h n lt = absurd (false≢true h)

pub none_from_marked : (marks : List Bool) → ((n : ℕ) → n < length marks → is_marked marks n ≡ true) → not (list_any (λ m. beq m false) marks) ≡ true
none_from_marked [] h = refl
none_from_marked (true ∷ ms) h = none_from_marked ms (λ n lt. h (suc n) (omega (arith, lt)))
none_from_marked (false ∷ ms) h = absurd (false≢true (h zero (omega arith)))

-- ---- nodes that are marked as steps lead to them

-- the step at a place of the list
pub step_here : (g : PlainGraph) (steps : List (ℕ × ℕ)) (i : ℕ) → steps ≡ g.steps → i < length steps → has_step g (get_or steps i (0, 0)).0 (get_or steps i (0, 0)).1 ≡ true
step_here g steps i all lt =
    let none : ℕ × ℕ = (0, 0) in
    let x : ℕ × ℕ = get_or steps i none in
    let goes : ℕ × ℕ → Bool = λ s. s.0 == x.0 && s.1 == x.1 in
    ap (list_any goes) (sym all) ∙ list_any_at goes steps i none lt (and_from (x.0 == x.0) (x.1 == x.1) (eq-eqb x.0 x.0 refl) (eq-eqb x.1 x.1 refl))

-- where one that can be reached steps to it, it can be reached too
pub marked_step : (g : PlainGraph) (marks : List Bool) (from to n : ℕ) → has_step g from to ≡ true → ((k : ℕ) → is_marked marks k ≡ true → CanBeReached g k) → is_marked marks from ≡ true
    → is_marked (set marks to true) n ≡ true → CanBeReached g n
marked_step g marks from to n step reached on h = elim (cases_eq to n) [
  | inl e ↦ let r = reached from on in (r.0, r.1, (r.2.0 ++ n ∷ [], trail_more g r.0 from n r.2.0 r.2.1 (ap (has_step g from) (sym e) ∙ step)))
  | inr ne ↦ reached n (sym (get_or-set_other marks to n true false (λ e. ne (sym e))) ∙ h)
]
