-- No two ways of two graphs stand at one place.
use Rattle.std.proofs.Common.{◌≡◌, ℕ, ◌+◌, ◌<◌, ◌≤◌, true, List, map, length, ap, inl, inr, arith, eqb-true, eq-eqb}
use Rattle.std.specs.Prelude.{◌==◌, nat_eq, All}
use Rattle.std.specs.List.{IsDistinct}
use Rattle.std.proofs.lemmas.Bool.{and_from, and_parts}
use Rattle.std.proofs.lemmas.List.Elements.{All-from_recursion}
use Rattle.list_law.specs.Members.{IsIn}
use Rattle.list_law.proofs.Apart.{Apart, Apart-append, Apart-from_distinct, Apart-map, IsDistinct-from_apart}
use Rattle.list_law.proofs.Members.{AllByRecursion-IsIn, AllByRecursion-from_IsIn, IsIn-append_cases, IsIn-map_parts}
use Rattle.graph_base.specs.Graphs.{PlainGraph, IsGraph}
use Rattle.graph_base.specs.Rules.{same_pair}
use Rattle.graph_base.specs.Runs.{place_of}
use Rattle.node_classes.specs.declared.way.Way.{Way}
use Rattle.node_classes.specs.Ways.{stand}
use Rattle.walk_check.specs.Alike.{IsSingleStepped}
use Rattle.walk_check.specs.WaysOf.{both_sizes, start_way, step_way, ways_of, ways_of_both}
use Rattle.walk_check.proofs.Gathered.{from_range, to_range}

abbrev pub AtOneStand : Way → Way → Type 0
AtOneStand v w = same_pair (stand v) (stand w) ≡ true

one_from : (v w : Way) → AtOneStand v w → v.from ≡ w.from
one_from v w h = eqb-true v.from w.from (and_parts (v.from == w.from) (v.at == w.at) h).0

module _ (g : PlainGraph) (rules : IsGraph g) (single : IsSingleStepped g) (first root : ℕ) (past : first + length g.nodes ≤ root) where
  starts_apart : Apart AtOneStand (map (start_way g first root) g.starts)
  starts_apart =
      Apart-map (λ s t. nat_eq (place_of g s) (place_of g t) ≡ true) AtOneStand (start_way g first root) g.starts (Apart-from_distinct nat_eq (place_of g) g.starts single.one_start)
      (λ s t a b h. (and_parts (root == root) (place_of g s == place_of g t) h).1)

  steps_apart : Apart AtOneStand (map (step_way g first) g.steps)
  steps_apart =
      Apart-map (λ (s : ℕ × ℕ) (t : ℕ × ℕ). same_pair (s.0, place_of g s.1) (t.0, place_of g t.1) ≡ true) AtOneStand (step_way g first) g.steps
      (Apart-from_distinct same_pair (λ (s : ℕ × ℕ). (s.0, place_of g s.1)) g.steps single.one_step)
      (λ s t a b h.
      let parts = and_parts (first + s.0 == first + t.0) (place_of g s.1 == place_of g t.1) h in
      let from : s.0 ≡ t.0 = let e = eqb-true (first + s.0) (first + t.0) parts.0 in omega (arith, e) in
      and_from (s.0 == t.0) (place_of g s.1 == place_of g t.1) (eq-eqb s.0 t.0 from) parts.1)

  cross : (v w : Way) → IsIn (map (start_way g first root) g.starts) v → IsIn (map (step_way g first) g.steps) w → AtOneStand v w → ⊥
  cross v w a b h =
      let s = IsIn-map_parts (start_way g first root) g.starts v a in
      let t = IsIn-map_parts (step_way g first) g.steps w b in
      let node = (AllByRecursion-IsIn (λ (s : ℕ × ℕ). (s.0 < length g.nodes) × (s.1 < length g.nodes)) g.steps t.0 rules.steps t.1).0 in
      let one : root ≡ v.from = ap (λ (z : Way). z.from) s.2 in
      let other : first + t.0.0 ≡ w.from = ap (λ (z : Way). z.from) t.2 in
      let same = one_from v w h in
      omega (arith, one, other, same, node, past)

  pub ways_apart : Apart AtOneStand (ways_of g first root)
  ways_apart = Apart-append AtOneStand (map (start_way g first root) g.starts) (map (step_way g first) g.steps) starts_apart steps_apart cross

module _ (t g : PlainGraph) (live_rules : IsGraph t) (rules : IsGraph g) where
  between : (v w : Way) → IsIn (ways_of t 0 (both_sizes t g)) v → IsIn (ways_of g (length t.nodes) (both_sizes t g + 1)) w → AtOneStand v w → ⊥
  between v w a b h =
      let same = one_from v w h in
      elim (from_range t 0 (both_sizes t g) live_rules v a) [
        | inl x ↦ elim (from_range g (length t.nodes) (both_sizes t g + 1) rules w b) [
          | inl y ↦ omega (arith, same, x, y)
          | inr y ↦ let up = y.1 in omega (arith, same, x, up)
        ]
        | inr x ↦ let below = x.1 in elim (from_range g (length t.nodes) (both_sizes t g + 1) rules w b) [
          | inl y ↦ omega (arith, same, below, y)
          | inr y ↦ let low = y.0 in omega (arith, same, below, low)
        ]
      ]

  pub stands_differ : IsSingleStepped t → IsSingleStepped g → IsDistinct same_pair (map stand (ways_of_both t g))
  stands_differ live_single single =
      IsDistinct-from_apart same_pair stand (ways_of_both t g)
      (Apart-append AtOneStand (ways_of t 0 (both_sizes t g)) (ways_of g (length t.nodes) (both_sizes t g + 1)) (ways_apart t live_rules live_single 0 (both_sizes t g) (omega arith))
      (ways_apart g rules single (length t.nodes) (both_sizes t g + 1) (omega arith)) between)

  -- they lead to nodes
  pub ends_within : (ways : List Way) → ((w : Way) → IsIn ways w → IsIn (ways_of_both t g) w) → All (λ (w : Way). w.to < both_sizes t g + 2) ways
  ends_within ways from = All-from_recursion (λ (w : Way). w.to < both_sizes t g + 2) ways (AllByRecursion-from_IsIn (λ (w : Way). w.to < both_sizes t g + 2) ways (λ w h.
      elim (IsIn-append_cases (ways_of t 0 (both_sizes t g)) (ways_of g (length t.nodes) (both_sizes t g + 1)) w (from w h)) [
        | inl a ↦ let to = to_range t 0 (both_sizes t g) live_rules w a in omega (arith, to)
        | inr b ↦ let to = to_range g (length t.nodes) (both_sizes t g + 1) rules w b in omega (arith, to)
      ]))
