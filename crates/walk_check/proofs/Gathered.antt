-- The ways of a graph are its starts and its steps.
use Rattle.std.proofs.Common.{◌≡◌, ◌⊎◌, ℕ, ◌+◌, ◌<◌, ◌≤◌, true, map, length, ap, sym, inl, inr, arith}
use Rattle.list_law.specs.Members.{IsIn}
use Rattle.list_law.proofs.Members.{AllByRecursion-IsIn, IsIn-append_cases, IsIn-append_left, IsIn-append_right, IsIn-map, IsIn-map_parts}
use Rattle.graph_base.specs.Graphs.{PlainGraph, IsGraph}
use Rattle.graph_base.specs.Runs.{is_start, has_step}
use Rattle.graph_base.proofs.StartsAndSteps.{in_start, in_step, start_in, step_in}
use Rattle.node_classes.specs.declared.way.Way.{Way}
use Rattle.walk_check.specs.WaysOf.{start_way, step_way, ways_of}

module _ (g : PlainGraph) (first root : ℕ) where
  pub start_way_in : (s : ℕ) → is_start g s ≡ true → IsIn (ways_of g first root) (start_way g first root s)
  start_way_in s h =
      IsIn-append_left (map (start_way g first root) g.starts) (map (step_way g first) g.steps) (start_way g first root s)
      (IsIn-map (start_way g first root) g.starts s (start_in g s h))

  pub step_way_in : (m n : ℕ) → has_step g m n ≡ true → IsIn (ways_of g first root) (step_way g first (m, n))
  step_way_in m n h =
      IsIn-append_right (map (start_way g first root) g.starts) (map (step_way g first) g.steps) (step_way g first (m, n))
      (IsIn-map (step_way g first) g.steps (m, n) (step_in g m n h))

  pub way_parts : (w : Way) → IsIn (ways_of g first root) w
      → ((s : ℕ) × (is_start g s ≡ true) × (start_way g first root s ≡ w)) ⊎ ((m n : ℕ) × (has_step g m n ≡ true) × (step_way g first (m, n) ≡ w))
  way_parts w h = elim (IsIn-append_cases (map (start_way g first root) g.starts) (map (step_way g first) g.steps) w h) [
    | inl a ↦ let o = IsIn-map_parts (start_way g first root) g.starts w a in inl (o.0, in_start g o.0 o.1, o.2)
    | inr b ↦ let o = IsIn-map_parts (step_way g first) g.steps w b in inr (o.0.0, o.0.1, in_step g o.0.0 o.0.1 o.1, o.2)
  ]

  -- they lead from the root or from a node, and to nodes
  pub from_range : IsGraph g → (w : Way) → IsIn (ways_of g first root) w → (w.from ≡ root) ⊎ ((first ≤ w.from) × (w.from < first + length g.nodes))
  from_range rules w h = elim (IsIn-append_cases (map (start_way g first root) g.starts) (map (step_way g first) g.steps) w h) [
    | inl a ↦ let o = IsIn-map_parts (start_way g first root) g.starts w a in inl (ap (λ (v : Way). v.from) (sym o.2))
    | inr b ↦
        let o = IsIn-map_parts (step_way g first) g.steps w b in
        let node = (AllByRecursion-IsIn (λ (s : ℕ × ℕ). (s.0 < length g.nodes) × (s.1 < length g.nodes)) g.steps o.0 rules.steps o.1).0 in
        let from : first + o.0.0 ≡ w.from = ap (λ (v : Way). v.from) o.2 in
        inr (omega (arith, from), omega (arith, from, node))
  ]

  pub to_range : IsGraph g → (w : Way) → IsIn (ways_of g first root) w → w.to < first + length g.nodes
  to_range rules w h = elim (IsIn-append_cases (map (start_way g first root) g.starts) (map (step_way g first) g.steps) w h) [
    | inl a ↦
        let o = IsIn-map_parts (start_way g first root) g.starts w a in
        let node = AllByRecursion-IsIn (λ n. n < length g.nodes) g.starts o.0 rules.starts o.1 in
        let to : first + o.0 ≡ w.to = ap (λ (v : Way). v.to) o.2 in
        omega (arith, to, node)
    | inr b ↦
        let o = IsIn-map_parts (step_way g first) g.steps w b in
        let node = (AllByRecursion-IsIn (λ (s : ℕ × ℕ). (s.0 < length g.nodes) × (s.1 < length g.nodes)) g.steps o.0 rules.steps o.1).1 in
        let to : first + o.0.1 ≡ w.to = ap (λ (v : Way). v.to) o.2 in
        omega (arith, to, node)
  ]
