-- What the walk by which a node is shown says.
use Rattle.std.proofs.Common.{◌≡◌, ℕ, zero, suc, ◌<◌, Bool, List, [], ◌∷◌, length, Option, Some, inl, inr, refl, sym, ap, ◌∙◌, subst, arith}
use Rattle.std.specs.Option.{option_and_then, option_map_or}
use Rattle.std.proofs.lemmas.Bool.{both_ways, cases_Bool, cases_lt, cond-true, cond-false}
use Rattle.net_base.specs.Network.{PlainNet}
use Rattle.graph_base.specs.Graphs.{PlainGraph}
use Rattle.graph_base.specs.Rules.{IsWellFormed}
use Rattle.graph_base.specs.Least.{least_below}
use Rattle.graph_base.specs.Runs.{has_step, is_start, place_of, run, start_at, step_at}
use Rattle.graph_base.specs.Walks.{IsEnteredFromBefore, IsFirstBefore, IsShownWalk, shown_walk, walk_within}
use Rattle.graph_base.proofs.Determined.{start_at-start, step_at-step}
use Rattle.graph_base.proofs.Least.{least_exists, least_is_least, least_passes}
use Rattle.graph_base.proofs.WalkLemmas.{before_inner, shown_back}

pub shown_walk_run : (net : PlainNet) (origin : ℕ → Bool) (external : Bool) (g : PlainGraph) (n : ℕ) (walk : List ℕ) → IsWellFormed net origin external g → IsShownWalk g n walk → run g walk ≡ Some n
shown_walk_run net origin external g n [] ok shown = absurd shown
shown_walk_run net origin external g n (l ∷ []) ok shown = ap (start_at g) shown.1 ∙ start_at-start g n ok.one_start shown.0
shown_walk_run net origin external g n (l ∷ k ∷ ls) ok shown =
    let before = shown.2.0 in
    ap (option_and_then (λ m. step_at g m l)) (shown_walk_run net origin external g before (k ∷ ls) ok shown.2.2) ∙ ap (step_at g before) shown.1 ∙ step_at-step g before n ok.one_step shown.2.1.0

same_first : (g : PlainGraph) (n a b : ℕ) → IsFirstBefore g a n → IsFirstBefore g b n → a ≡ b
same_first g n a b one other = omega (arith, one.1 b other.0, other.1 a one.0)

pub shown_walk_same : (g : PlainGraph) (n : ℕ) (one other : List ℕ) → IsShownWalk g n one → IsShownWalk g n other → one ≡ other
shown_walk_same g n [] other a b = absurd a
shown_walk_same g n (l ∷ []) [] a b = absurd b
shown_walk_same g n (l ∷ []) (m ∷ []) a b = ap (λ x. x ∷ []) (a.1 ∙ sym b.1)
shown_walk_same g n (l ∷ []) (m ∷ k ∷ ls) a b = absurd (both_ways _ b.0 a.0)
shown_walk_same g n (l ∷ j ∷ js) [] a b = absurd b
shown_walk_same g n (l ∷ j ∷ js) (m ∷ []) a b = absurd (both_ways _ a.0 b.0)
shown_walk_same g n (l ∷ j ∷ js) (m ∷ k ∷ ls) a b =
    let first = same_first g n a.2.0 b.2.0 a.2.1 b.2.1 in
    let rest : (j ∷ js) ≡ (k ∷ ls) = shown_walk_same g b.2.0 (j ∷ js) (k ∷ ls) (rw first at a.2.2) b.2.2 in
    ap (λ x. x ∷ j ∷ js) (a.1 ∙ sym b.1) ∙ ap (λ xs. m ∷ xs) rest

-- ---- the walk as a function

first_is : (g : PlainGraph) (n m : ℕ) → least_below n (λ m. has_step g m n) ≡ Some m → IsFirstBefore g m n
first_is g n m h =
    let passes = least_passes n (λ m. has_step g m n) m h in (
      passes.1,
      λ k step. elim (cases_lt k n) [
        | inl t ↦ least_is_least n (λ m. has_step g m n) m k h t step
        | inr t ↦ omega (arith, passes.0, t)
      ],
    )

module _ (g : PlainGraph) (entered : IsEnteredFromBefore g) where
  walk_shown : (fuel n : ℕ) → n < length g.nodes → n < fuel → IsShownWalk g n (walk_within g fuel n)
  walk_shown zero n lt less = absurd (omega (arith, less))
  walk_shown (suc fuel) n lt less = elim (cases_Bool (is_start g n)) [
    | inl start ↦
        subst (IsShownWalk g n) (sym (cond-true (is_start g n) (place_of g n ∷ [])
        (place_of g n ∷ option_map_or (walk_within g fuel) (least_below n (λ m. has_step g m n)) []) start)) (start, refl)
    | inr off ↦ (
        let there = before_inner g n entered lt off in
        let some = least_exists n (λ m. has_step g m n) there.0 there.1 there.2 in
        let m = some.0 in
        let under = (least_passes n (λ m. has_step g m n) m some.1).0 in
        let rest = walk_shown fuel m (omega (arith, under, lt)) (omega (arith, under, less)) in
        let is : walk_within g (suc fuel) n ≡ place_of g n ∷ walk_within g fuel m =
        cond-false (is_start g n) (place_of g n ∷ []) (place_of g n ∷ option_map_or (walk_within g fuel) (least_below n (λ m. has_step g m n)) []) off
        ∙ ap (λ (o : Option ℕ). place_of g n ∷ option_map_or (walk_within g fuel) o []) some.1 in
        subst (IsShownWalk g n) (sym is) (shown_back g n m (walk_within g fuel m) off (first_is g n m some.1) rest))
  ]

  pub shown_walk_is : (n : ℕ) → n < length g.nodes → IsShownWalk g n (shown_walk g n)
  shown_walk_is n lt = walk_shown (suc n) n lt (omega arith)
