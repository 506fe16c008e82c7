-- Runs of a graph step by step.
use Rattle.std.proofs.Common.{◌≡◌, ℕ, ◌<◌, Bool, true, false, List, [], ◌∷◌, length, Some, inl, inr, sym, ap, ◌∙◌}
use Rattle.std.specs.Option.{option_and_then}
use Rattle.std.proofs.lemmas.Bool.{cases_Bool, or_cases, true≢false}
use Rattle.std.proofs.lemmas.Option.{none-some, option_and_then_some}
use Rattle.list_law.proofs.Options.{option_and_then_parts}
use Rattle.net_base.specs.Network.{PlainNet, is_peer, is_router}
use Rattle.net_base.proofs.RoutersAndPeers.{router_no_peer}
use Rattle.graph_base.specs.Graphs.{PlainGraph, IsGraph}
use Rattle.graph_base.specs.Rules.{IsWellFormed}
use Rattle.graph_base.specs.Runs.{place_of, is_start, has_step, start_at, step_at, run}
use Rattle.graph_base.proofs.StartsAndSteps.{start_at-is, start_node, step_at-is, step_nodes}
use Rattle.graph_base.proofs.WellFormed.{linked_parts, start_at-of, step_at-of}

-- the last step of a run
pub last_step : (g : PlainGraph) (l k m : ℕ) (ls : List ℕ) → run g (l ∷ k ∷ ls) ≡ Some m → (n : ℕ) × (run g (k ∷ ls) ≡ Some n) × (has_step g n m ≡ true) × (place_of g m ≡ l)
last_step g l k m ls h =
    let first = option_and_then_parts (λ n. step_at g n l) (run g (k ∷ ls)) m h in
    let is = step_at-is g first.0 l m first.2 in
    (first.0, first.1, is.0, is.1)

-- the path begins at the run's node
pub run_begins : (g : PlainGraph) (l n : ℕ) (ls : List ℕ) → run g (l ∷ ls) ≡ Some n → place_of g n ≡ l
run_begins g l n [] h = (start_at-is g l n h).1
run_begins g l n (k ∷ ls) h = (last_step g l k n ls h).3

-- what a run ends in is a node
pub run_inside : (g : PlainGraph) → IsGraph g → (path : List ℕ) (n : ℕ) → run g path ≡ Some n → n < length g.nodes
run_inside g rules [] n h = absurd cc
run_inside g rules (l ∷ []) n h = start_node g n rules (start_at-is g l n h).0
run_inside g rules (l ∷ k ∷ ls) n h = let last = last_step g l k n ls h in (step_nodes g last.0 n rules last.2).1

-- ---- by recursion

-- the run along a path ends in n
abbrev pub RunsTo : PlainGraph → List ℕ → ℕ → Type 0
RunsTo g [] n = ⊥
RunsTo g (l ∷ []) n = (is_start g n ≡ true) × (place_of g n ≡ l)
RunsTo g (l ∷ k ∷ ls) n = (m : ℕ) × RunsTo g (k ∷ ls) m × (has_step g m n ≡ true) × (place_of g n ≡ l)

pub runs_from_run : (g : PlainGraph) (path : List ℕ) (n : ℕ) → run g path ≡ Some n → RunsTo g path n
runs_from_run g [] n h = absurd (none-some n h)
runs_from_run g (l ∷ []) n h = start_at-is g l n h
runs_from_run g (l ∷ k ∷ ls) n h =
    option_and_then_some (λ m. step_at g m l) (run g (k ∷ ls)) n h
    (λ m e s. let p = step_at-is g m l n s in (m, runs_from_run g (k ∷ ls) m e, p.0, p.1))

pub run_place : (g : PlainGraph) (l : ℕ) (ls : List ℕ) (n : ℕ) → RunsTo g (l ∷ ls) n → place_of g n ≡ l
run_place g l [] n r = r.1
run_place g l (k ∷ ls) n r = r.3

-- starts and steps lead to nodes
pub record IsInside (g : PlainGraph) : Type 0 where
  pub starts : (n : ℕ) → is_start g n ≡ true → n < length g.nodes
  pub sources : (m n : ℕ) → has_step g m n ≡ true → m < length g.nodes
  pub steps : (m n : ℕ) → has_step g m n ≡ true → n < length g.nodes

pub runs_inside : (g : PlainGraph) → IsInside g → (path : List ℕ) (n : ℕ) → RunsTo g path n → n < length g.nodes
runs_inside g inside [] n r = absurd r
runs_inside g inside (l ∷ []) n r = inside.starts n r.0
runs_inside g inside (l ∷ k ∷ ls) n r = inside.steps r.0 n r.2

-- ---- where the graph is well formed

module _ (net : PlainNet) (origin : ℕ → Bool) (external : Bool) (g : PlainGraph) (formed : IsWellFormed net origin external g) where
  pub run_from_runs : (path : List ℕ) (n : ℕ) → RunsTo g path n → run g path ≡ Some n
  run_from_runs [] n r = absurd r
  run_from_runs (l ∷ []) n r = ap (start_at g) (sym r.1) ∙ start_at-of net origin external g formed n r.0
  run_from_runs (l ∷ k ∷ ls) n r = ap (option_and_then (λ m. step_at g m l)) (run_from_runs (k ∷ ls) r.0 r.1) ∙ ap (step_at g r.0) (sym r.3) ∙ step_at-of net origin external g formed r.0 n r.2

module _ (net : PlainNet) (origin : ℕ → Bool) (external : Bool) (g : PlainGraph) (graph_rules : IsGraph g) (formed : IsWellFormed net origin external g) where
  -- a run that has stepped isn't at a start, nor at an origin
  late : (l k m : ℕ) (ls : List ℕ) → run g (l ∷ k ∷ ls) ≡ Some m → is_start g m ≡ false
  late l k m ls h = let s = last_step g l k m ls h in (linked_parts net g s.0 m (formed.links s.0 m s.2)).1

  pub late_no_origin : (l k m : ℕ) (ls : List ℕ) → run g (l ∷ k ∷ ls) ≡ Some m → origin l ≡ false
  late_no_origin l k m ls h = elim (cases_Bool (origin l)) [
    | inl t ↦
        let s = last_step g l k m ls h in
        let at : origin (place_of g m) ≡ true = ap origin s.3 ∙ t in
        absurd (true≢false (sym (formed.alone m (step_nodes g s.0 m graph_rules s.2).1 at) ∙ late l k m ls h))
    | inr t ↦ t
  ]

  -- where a walk goes on after its origin it's at a router
  pub inner_router : (l k j m : ℕ) (ls : List ℕ) → run g (l ∷ k ∷ j ∷ ls) ≡ Some m → is_peer net k ≡ false
  inner_router l k j m ls h =
      let s = last_step g l k m (j ∷ ls) h in
      elim (or_cases (is_start g s.0) (is_router net (place_of g s.0)) (formed.from s.0 m s.2)) [
        | inl t ↦ absurd (true≢false (sym t ∙ late k j s.0 ls s.1))
        | inr t ↦ ap (is_peer net) (sym (run_begins g k s.0 (j ∷ ls) s.1)) ∙ router_no_peer net (place_of g s.0) t
      ]
