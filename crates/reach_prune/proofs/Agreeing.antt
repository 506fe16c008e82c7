-- Tests that agree on the nodes of a graph keep the same graph.
use Rattle.std.proofs.Common.{◌≡◌, ℕ, ◌+◌, ◌<◌, Bool, cond, ◌&&◌, List, [], ◌∷◌, map, length, filter, refl, ap, ◌∙◌, arith}
use Rattle.list_law.proofs.Changed.{filter_same, map_same}
use Rattle.list_law.proofs.Members.{IsIn-filter_parts}
use Rattle.list_law.specs.Members.{IsIn}
use Rattle.list_law.proofs.Kept.{kept_below_alike}
use Rattle.list_law.specs.Counts.{kept_below}
use Rattle.graph_base.specs.declared.graph.Node.{Node}
use Rattle.graph_base.specs.Graphs.{PlainGraph}
use Rattle.graph_base.proofs.StartsAndSteps.{in_start, in_step}
use Rattle.graph_base.proofs.RunSteps.{IsInside}
use Rattle.reach_prune.specs.Trimmed.{nodes_kept, both_kept, renumbered, graph_kept}

module _ (keep keep' : ℕ → Bool) where
  nodes_kept_same : (k : ℕ) (nodes : List Node) → ((i : ℕ) → i < k + length nodes → keep i ≡ keep' i) → nodes_kept keep k nodes ≡ nodes_kept keep' k nodes
  nodes_kept_same k [] same = refl
  nodes_kept_same k (node ∷ nodes) same =
      let rest = nodes_kept_same (k + 1) nodes (λ i lt. same i (omega (arith, lt))) in
      λ i. cond (same k (omega arith) i) (node ∷ rest i) (rest i)

  pub graph_kept_same : (g : PlainGraph) → IsInside g → ((n : ℕ) → n < length g.nodes → keep n ≡ keep' n) → graph_kept keep g ≡ graph_kept keep' g
  graph_kept_same g inside same = λ i. record { nodes = nodes i; starts = starts i; steps = steps i }
    where
      nodes : nodes_kept keep 0 g.nodes ≡ nodes_kept keep' 0 g.nodes
      nodes = nodes_kept_same 0 g.nodes (λ i lt. same i (omega (arith, lt)))

      number : (n : ℕ) → n < length g.nodes → kept_below keep n ≡ kept_below keep' n
      number n lt = kept_below_alike keep keep' n (λ i less. same i (omega (arith, lt, less)))

      starts : map (kept_below keep) (filter keep g.starts) ≡ map (kept_below keep') (filter keep' g.starts)
      starts =
          map_same (kept_below keep) (kept_below keep') (filter keep g.starts)
          (λ n h. number n (inside.starts n (in_start g n (IsIn-filter_parts keep g.starts n h).0)))
          ∙ ap (map (kept_below keep')) (filter_same keep keep' g.starts (λ n h. same n (inside.starts n (in_start g n h))))

      from : (s : ℕ × ℕ) → IsIn g.steps s → s.0 < length g.nodes
      from s h = inside.sources s.0 s.1 (in_step g s.0 s.1 h)

      to : (s : ℕ × ℕ) → IsIn g.steps s → s.1 < length g.nodes
      to s h = inside.steps s.0 s.1 (in_step g s.0 s.1 h)

      steps : map (renumbered keep) (filter (both_kept keep) g.steps) ≡ map (renumbered keep') (filter (both_kept keep') g.steps)
      steps =
          map_same (renumbered keep) (renumbered keep') (filter (both_kept keep) g.steps)
          (λ s h. let at = (IsIn-filter_parts (both_kept keep) g.steps s h).0 in λ i. (number s.0 (from s at) i, number s.1 (to s at) i))
          ∙ ap (map (renumbered keep'))
          (filter_same (both_kept keep) (both_kept keep') g.steps (λ s h. λ i. same s.0 (from s h) i && same s.1 (to s h) i))
