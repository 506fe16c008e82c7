-- Lists of neighbours have the steps of the graph.
use Rattle.std.proofs.Common.{◌≡◌, ℕ, ◌+◌, ◌<◌, ◌≤◌, zero, suc, Bool, true, ◌&&◌, ◌||◌, eqb, List, [], ◌∷◌, ◌++◌, length, get_or, set, take, refl, sym, ap, ◌∙◌, inl, inr, arith}
use Rattle.std.proofs.lemmas.Bool.{or_cases, and_parts, eqb-true}
use Rattle.std.proofs.lemmas.Bool.Decides.{eqb_tells}
use Rattle.std.proofs.lemmas.List.{get_or-set_other, get_or-set_same, take_all, take_more}
use Rattle.std.proofs.lemmas.List.Folds.{list_any-append}
use Rattle.std.specs.List.{list_any, AllByRecursion}
use Rattle.std.proofs.Math.Bool.{and_comm, or-false}
use Rattle.graph_base.specs.Graphs.{PlainGraph, IsGraph}
use Rattle.reach_prune.specs.declared.steps.Way.{Way}
use Rattle.reach_prune.specs.declared.steps.Way.TheVariants.{Forward, Backward}
use Rattle.reach_prune.specs.Searches.{is_among, is_listed}
use Rattle.reach_prune.specs.Ways.{ends, step_along}
use Rattle.reach_prune.proofs.Trails.{waited}

-- the step leads from a to b
abbrev pub goes : Way → ℕ → ℕ → ℕ × ℕ → Bool
goes way a b step = eqb (ends way step).0 a && eqb (ends way step).1 b

-- a step leads from a node
pub ends_node : (way : Way) (n : ℕ) (steps : List (ℕ × ℕ)) (i : ℕ) → AllByRecursion (λ (s : ℕ × ℕ). (s.0 < n) × (s.1 < n)) steps → i < length steps
    → (ends way (get_or steps i (0, 0))).0 < n
ends_node way n [] i within lt = omega arith
ends_node Forward n (s ∷ ss) zero within lt = within.0.0
ends_node Backward n (s ∷ ss) zero within lt = within.0.1
ends_node way n (s ∷ ss) (suc i) within lt = ends_node way n ss i within.1 (omega arith)

-- one more step is put in the list of the node from which it leads
pub listed_more : (way : Way) (steps : List (ℕ × ℕ)) (i : ℕ) (lists : List (List ℕ)) (list : List ℕ) (step : ℕ × ℕ)
    → i < length steps → step ≡ ends way (get_or steps i (0, 0)) → step.0 < length lists → list ≡ get_or lists step.0 [] ++ step.1 ∷ []
    → ((a b : ℕ) → is_listed lists a b ≡ list_any (goes way a b) (take i steps))
    → (a b : ℕ) → is_listed (set lists step.0 list) a b ≡ list_any (goes way a b) (take (i + 1) steps)
listed_more way steps i lists list step lt is inside pushed before a b = elim (eqb_tells step.0 a) [
  | inl here ↦
      ap (λ k. is_among (get_or (set lists step.0 list) k []) b) (sym here.1) ∙ ap (λ l. is_among l b) (get_or-set_same lists step.0 list [] inside)
      ∙ waited list (get_or lists step.0 []) step.1 b pushed ∙ ap (λ k. is_among (get_or lists k []) b || eqb step.1 b) here.1
      ∙ sym (whole ∙ ap (λ t. is_listed lists a b || (t && eqb step.1 b)) here.0)
  | inr other ↦
      ap (λ l. is_among l b) (get_or-set_other lists step.0 a list [] (λ e. other.1 (sym e)))
      ∙ sym (whole ∙ ap (λ t. is_listed lists a b || (t && eqb step.1 b)) other.0 ∙ or-false (is_listed lists a b))
]
  where
    whole : list_any (goes way a b) (take (i + 1) steps) ≡ (is_listed lists a b || (eqb step.0 a && eqb step.1 b))
    whole =
        ap (list_any (goes way a b)) (take_more steps i (0, 0) lt) ∙ list_any-append (goes way a b) (take i steps) (get_or steps i (0, 0) ∷ [])
        ∙ ap (λ x. list_any (goes way a b) (take i steps) || x) (or-false (goes way a b (get_or steps i (0, 0))))
        ∙ ap (λ (e : ℕ × ℕ). list_any (goes way a b) (take i steps) || (eqb e.0 a && eqb e.1 b)) (sym is)
        ∙ ap (λ x. x || (eqb step.0 a && eqb step.1 b)) (sym (before a b))

-- lists with all steps of a graph
pub listed_steps : (way : Way) (g : PlainGraph) (lists : List (List ℕ)) (steps : List (ℕ × ℕ)) (i a b : ℕ) → steps ≡ g.steps → length steps ≤ i
    → is_listed lists a b ≡ list_any (goes way a b) (take i steps) →
    is_listed lists a b ≡ step_along way g a b
listed_steps way g lists steps i a b whole done listed = listed ∙ ap (list_any (goes way a b)) (take_all i steps done ∙ whole) ∙ goes_any way
  where
    turned : (steps : List (ℕ × ℕ)) → list_any (goes Backward a b) steps ≡ list_any (λ (s : ℕ × ℕ). eqb s.0 b && eqb s.1 a) steps
    turned [] = refl
    turned (s ∷ ss) = rw (and_comm (eqb s.1 a) (eqb s.0 b), turned ss) refl

    goes_any : (way : Way) → list_any (goes way a b) g.steps ≡ step_along way g a b
    goes_any Forward = refl
    goes_any Backward = turned g.steps

-- both ends of a step are nodes
step_nodes : (steps : List (ℕ × ℕ)) (n a b : ℕ) → AllByRecursion (λ (s : ℕ × ℕ). (s.0 < n) × (s.1 < n)) steps → list_any (λ (s : ℕ × ℕ). eqb s.0 a && eqb s.1 b) steps ≡ true → (a < n) × (b < n)
step_nodes [] n a b within h = absurd (cc)
step_nodes (s ∷ ss) n a b within h = elim (or_cases (eqb s.0 a && eqb s.1 b) _ h) [
  | inl here ↦ (
      let e = and_parts (eqb s.0 a) (eqb s.1 b) here in
      let a_is = eqb-true s.0 a e.0 in
      let b_is = eqb-true s.1 b e.1 in
      (omega (arith, within.0), omega (arith, within.0)))
  | inr there ↦ step_nodes ss n a b within.1 there
]

pub step_along_node : (way : Way) (g : PlainGraph) (a b : ℕ) → IsGraph g → step_along way g a b ≡ true → b < length g.nodes
step_along_node Forward g a b ok h = (step_nodes g.steps (length g.nodes) a b ok.steps h).1
step_along_node Backward g a b ok h = (step_nodes g.steps (length g.nodes) b a ok.steps h).0
