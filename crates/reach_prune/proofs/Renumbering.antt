-- The numbers of the nodes that are kept close up.
use Rattle.std.proofs.Common.{◌≡◌, ℕ, ◌+◌, ◌<◌, Bool, List, [], ◌∷◌, ◌++◌, length, map, Option, None, refl, sym, ap, ◌∙◌, inl, inr, arith, suc, cond, add-one}
use Rattle.std.proofs.lemmas.Bool.{cases_Bool, cases_lt, cond-false, cond-true}
use Rattle.std.proofs.lemmas.List.{get_or_push}
use Rattle.std.proofs.Math.ListN.{get_or-append}
use Rattle.std.specs.List.{AllByRecursion, filter, filter_map}
use Rattle.graph_base.specs.declared.graph.Node.{Node}
use Rattle.graph_base.specs.Graphs.{PlainGraph, IsGraph}
use Rattle.reach_prune.specs.Numbers.{number_in, number_kept, step_in}
use Rattle.list_law.specs.Counts.{kept_below}
use Rattle.list_law.proofs.Kept.{kept_below-less}
use Rattle.reach_prune.specs.Trimmed.{both_kept, graph_kept, nodes_kept, renumbered}
use Rattle.reach_prune.proofs.Keeping.{kept_below_le}

starts_renumbered : (keep : ℕ → Bool) (numbers : List (Option ℕ)) → ((n : ℕ) → number_in numbers n ≡ number_kept keep n) → (starts : List ℕ)
    → filter_map (number_in numbers) starts ≡ map (kept_below keep) (filter keep starts)
starts_renumbered keep numbers same [] = refl
starts_renumbered keep numbers same (n ∷ ns) = rw (same n) (elim (cases_Bool (keep n)) [
  | inl kept ↦ rw kept (ap (λ rest. kept_below keep n ∷ rest) (starts_renumbered keep numbers same ns))
  | inr left ↦ rw left (starts_renumbered keep numbers same ns)
])

steps_renumbered : (keep : ℕ → Bool) (numbers : List (Option ℕ)) → ((n : ℕ) → number_in numbers n ≡ number_kept keep n) → (steps : List (ℕ × ℕ))
    → filter_map (step_in numbers) steps ≡ map (renumbered keep) (filter (both_kept keep) steps)
steps_renumbered keep numbers same [] = refl
steps_renumbered keep numbers same (s ∷ ss) = rw (same s.0, same s.1) (elim (cases_Bool (keep s.0)) [
  | inl from ↦ elim (cases_Bool (keep s.1)) [
    | inl to ↦ rw (from, to) (ap (λ rest. renumbered keep s ∷ rest) (steps_renumbered keep numbers same ss))
    | inr left ↦ rw (from, left) (steps_renumbered keep numbers same ss)
  ]
  | inr left ↦ rw left (steps_renumbered keep numbers same ss)
])

length-nodes_kept : (keep : ℕ → Bool) (k : ℕ) (nodes : List Node) → length (nodes_kept keep k nodes) + kept_below keep k ≡ kept_below keep (k + length nodes)
length-nodes_kept keep k [] = let e : k ≡ k + 0 = omega arith in omega (arith, ap (kept_below keep) e)
length-nodes_kept keep k (node ∷ nodes) =
    let next : kept_below keep (k + 1) ≡ kept_below keep k + cond (keep k) 1 0 = ap (kept_below keep) (add-one k) in
    let rest : length (nodes_kept keep (k + 1) nodes) + kept_below keep (k + 1) ≡ kept_below keep ((k + 1) + length nodes) = length-nodes_kept keep (k + 1) nodes in
    let end : (k + 1) + length nodes ≡ k + length (node ∷ nodes) = omega arith in
    let whole : kept_below keep ((k + 1) + length nodes) ≡ kept_below keep (k + length (node ∷ nodes)) = ap (kept_below keep) end in
    elim (cases_Bool (keep k)) [
      | inl kept ↦ (
          let longer : length (nodes_kept keep k (node ∷ nodes)) ≡ suc (length (nodes_kept keep (k + 1) nodes)) = ap length (cond-true (keep k) _ _ kept) in
          let one : ◌≡◌ {A = ℕ} (cond (keep k) 1 0) 1 = cond-true (keep k) 1 0 kept in
          omega (arith, next, rest, whole, longer, one))
      | inr left ↦ (
          let same : length (nodes_kept keep k (node ∷ nodes)) ≡ length (nodes_kept keep (k + 1) nodes) = ap length (cond-false (keep k) _ _ left) in
          let none : ◌≡◌ {A = ℕ} (cond (keep k) 1 0) 0 = cond-false (keep k) 1 0 left in
          omega (arith, next, rest, whole, same, none))
    ]

starts_within : (keep : ℕ → Bool) (size : ℕ) (starts : List ℕ) → AllByRecursion (λ n. n < size) starts → AllByRecursion (λ n. n < kept_below keep size) (map (kept_below keep) (filter keep starts))
starts_within keep size [] all = tt
starts_within keep size (n ∷ ns) all = elim (cases_Bool (keep n)) [
  | inl kept ↦ rw kept (kept_below-less keep n size kept all.0, starts_within keep size ns all.1)
  | inr left ↦ rw left (starts_within keep size ns all.1)
]

steps_within : (keep : ℕ → Bool) (size : ℕ) (steps : List (ℕ × ℕ)) → AllByRecursion (λ (s : ℕ × ℕ). (s.0 < size) × (s.1 < size)) steps →
    AllByRecursion (λ (s : ℕ × ℕ). (s.0 < kept_below keep size) × (s.1 < kept_below keep size)) (map (renumbered keep) (filter (both_kept keep) steps))
steps_within keep size [] all = tt
steps_within keep size (s ∷ ss) all = elim (cases_Bool (keep s.0)) [
  | inl from ↦ elim (cases_Bool (keep s.1)) [
    | inl to ↦ rw (from, to) ((kept_below-less keep s.0 size from all.0.0, kept_below-less keep s.1 size to all.0.1), steps_within keep size ss all.1)
    | inr left ↦ rw (from, left) (steps_within keep size ss all.1)
  ]
  | inr left ↦ rw left (steps_within keep size ss all.1)
]

pub graph_kept_is_graph : (keep : ℕ → Bool) (g : PlainGraph) → IsGraph g → IsGraph (graph_kept keep g)
graph_kept_is_graph keep g ok =
    let size : length (nodes_kept keep 0 g.nodes) ≡ kept_below keep (length g.nodes) =
    (let whole : 0 + length g.nodes ≡ length g.nodes = omega arith in omega (arith, length-nodes_kept keep 0 g.nodes, ap (kept_below keep) whole)) in
    record {
      count = omega (arith, size, kept_below_le keep (length g.nodes), ok.count);
      starts = rw size (starts_within keep (length g.nodes) g.starts ok.starts);
      steps = rw size (steps_within keep (length g.nodes) g.steps ok.steps);
    }

pub graph_kept_of : (keep : ℕ → Bool) (g : PlainGraph) (numbers : List (Option ℕ)) (nodes : List Node) (starts : List ℕ) (steps : List (ℕ × ℕ)) → ((n : ℕ) → number_in numbers n ≡ number_kept keep n) →
    nodes ≡ nodes_kept keep 0 g.nodes → starts ≡ filter_map (number_in numbers) g.starts → steps ≡ filter_map (step_in numbers) g.steps
    → graph_kept keep g ≡ record { nodes = nodes; starts = starts; steps = steps }
graph_kept_of keep g numbers nodes starts steps same n s t = rw (n, s, t, starts_renumbered keep numbers same g.starts, steps_renumbered keep numbers same g.steps) refl

-- the number of one more node is pushed
pub numbers_more : (keep : ℕ → Bool) (numbers : List (Option ℕ)) (i : ℕ) (next : Option ℕ) → length numbers ≡ i
    → ((n : ℕ) → n < i → number_in numbers n ≡ number_kept keep n) → next ≡ number_kept keep i
    → (n : ℕ) → n < i + 1 → number_in (numbers ++ next ∷ []) n ≡ number_kept keep n
numbers_more keep numbers i next size before is n lt = elim (cases_lt n i) [
  | inl low ↦ get_or-append numbers (next ∷ []) None n (omega (arith, low, size)) ∙ before n low
  | inr past ↦ (
      let same : n ≡ i = omega (arith, lt, past) in
      get_or_push numbers next None n (omega (arith, same, size)) ∙ is ∙ ap (number_kept keep) (sym same))
]
