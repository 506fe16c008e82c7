-- What is followed from a root along the ways of both graphs is the run of its graph.
use Rattle.std.proofs.Common.{◌≡◌, ◌⊎◌, ℕ, ◌+◌, ◌<◌, ◌≤◌, List, [], ◌∷◌, length, Option, Some, None, refl, ap, sym, ◌∙◌, subst, inl, inr, arith}
use Rattle.std.specs.Prelude.{◌↔◌, option_map, option_and_then}
use Rattle.std.proofs.lemmas.Option.{none-some}
use Rattle.list_law.specs.Members.{IsIn}
use Rattle.list_law.proofs.Members.{IsIn-append_cases, IsIn-append_left, IsIn-append_right}
use Rattle.list_law.proofs.Options.{cases_Option, none_from, option_map_parts}
use Rattle.graph_base.specs.Graphs.{PlainGraph, IsGraph}
use Rattle.graph_base.specs.Runs.{place_of, start_at, step_at, run}
use Rattle.graph_base.proofs.Determined.{start_at-start, step_at-step}
use Rattle.graph_base.proofs.StartsAndSteps.{start_at-is, step_at-is, step_nodes}
use Rattle.graph_base.proofs.RunSteps.{run_inside}
use Rattle.node_classes.specs.declared.way.Way.{Way}
use Rattle.node_classes.specs.Ways.{Ascend, follow, next}
use Rattle.node_classes.proofs.Ordered.{next-way, way_next}
use Rattle.walk_check.specs.Alike.{IsSingleStepped}
use Rattle.walk_check.specs.WaysOf.{both_sizes, start_way, step_way, ways_of, ways_of_both}
use Rattle.walk_check.proofs.Gathered.{from_range, start_way_in, step_way_in, way_parts}

-- options that hold the same are the same
same_options : (o p : Option ℕ) → ((n : ℕ) → o ≡ Some n → p ≡ Some n) → ((n : ℕ) → p ≡ Some n → o ≡ Some n) → o ≡ p
same_options o p to back = elim (cases_Option o) [
  | inl none ↦ none ∙ sym (none_from p (λ n h. none-some n (sym none ∙ back n h)))
  | inr some ↦ some.1 ∙ sym (to some.0 some.1)
]

-- Ways in order that hold those of a graph, and no others from its root or its nodes.
pub record AreWaysOf (ways : List Way) (g : PlainGraph) (first root : ℕ) : Type 0 where
  pub order : Ascend ways
  pub has : (w : Way) → IsIn (ways_of g first root) w → IsIn ways w
  pub own : (w : Way) → IsIn ways w → (w.from ≡ root) ⊎ ((first ≤ w.from) × (w.from < first + length g.nodes)) → IsIn (ways_of g first root) w
  pub past : first + length g.nodes ≤ root

module _ (ways : List Way) (g : PlainGraph) (first root : ℕ) (rules : IsGraph g) (single : IsSingleStepped g) (are : AreWaysOf ways g first root) where
  abbrev counted : Option ℕ → Option ℕ
  counted o = option_map (λ n. first + n) o

  abbrev way : ℕ → ℕ → ℕ → Way
  way n l m = record { from = n; at = l; to = m }

  at_root : (l : ℕ) → next ways root l ≡ counted (start_at g l)
  at_root l = same_options (next ways root l) (counted (start_at g l)) to back
    where
      to : (m : ℕ) → next ways root l ≡ Some m → counted (start_at g l) ≡ Some m
      to m h = elim (way_parts g first root (way root l m) (are.own (way root l m) (way_next ways root l m h) (inl refl))) [
        | inl a ↦
            let at : place_of g a.0 ≡ l = ap (λ (w : Way). w.at) a.2 in
            let to : first + a.0 ≡ m = ap (λ (w : Way). w.to) a.2 in
            ap (λ k. counted (start_at g k)) (sym at) ∙ ap counted (start_at-start g a.0 single.one_start a.1) ∙ ap Some to
        | inr b ↦
            let from : first + b.0 ≡ root = ap (λ (w : Way). w.from) b.3 in
            let node = (step_nodes g b.0 b.1 rules b.2).0 in
            let past = are.past in
            absurd (omega (arith, from, node, past))
      ]

      back : (m : ℕ) → counted (start_at g l) ≡ Some m → next ways root l ≡ Some m
      back m h =
          let o = option_map_parts (λ n. first + n) (start_at g l) m h in
          let is = start_at-is g l o.0 o.1 in
          let here : start_way g first root o.0 ≡ way root l m = λ i. record { from = root; at = is.1 i; to = o.2 i } in
          next-way ways root l m are.order (are.has (way root l m) (subst (IsIn (ways_of g first root)) here (start_way_in g first root o.0 is.0)))

  at_node : (n l : ℕ) → n < length g.nodes → next ways (first + n) l ≡ counted (step_at g n l)
  at_node n l within = same_options (next ways (first + n) l) (counted (step_at g n l)) to back
    where
      to : (m : ℕ) → next ways (first + n) l ≡ Some m → counted (step_at g n l) ≡ Some m
      to m h = elim (way_parts g first root (way (first + n) l m) (are.own (way (first + n) l m) (way_next ways (first + n) l m h) (inr (omega arith, omega (arith, within))))) [
        | inl a ↦
            let from : root ≡ first + n = ap (λ (w : Way). w.from) a.2 in
            let past = are.past in
            absurd (omega (arith, from, within, past))
        | inr b ↦
            let from : first + b.0 ≡ first + n = ap (λ (w : Way). w.from) b.3 in
            let same : b.0 ≡ n = omega (arith, from) in
            let at : place_of g b.1 ≡ l = ap (λ (w : Way). w.at) b.3 in
            let to : first + b.1 ≡ m = ap (λ (w : Way). w.to) b.3 in
            (λ i. counted (step_at g (sym same i) (sym at i))) ∙ ap counted (step_at-step g b.0 b.1 single.one_step b.2) ∙ ap Some to
      ]

      back : (m : ℕ) → counted (step_at g n l) ≡ Some m → next ways (first + n) l ≡ Some m
      back m h =
          let o = option_map_parts (λ k. first + k) (step_at g n l) m h in
          let is = step_at-is g n l o.0 o.1 in
          let here : step_way g first (n, o.0) ≡ way (first + n) l m = λ i. record { from = first + n; at = is.1 i; to = o.2 i } in
          next-way ways (first + n) l m are.order (are.has (way (first + n) l m) (subst (IsIn (ways_of g first root)) here (step_way_in g first root n o.0 is.0)))

  pub follow-run : (l : ℕ) (ls : List ℕ) → follow ways root (l ∷ ls) ≡ counted (run g (l ∷ ls))
  follow-run l [] = at_root l
  follow-run l (k ∷ ks) = ap (option_and_then (λ m. next ways m l)) (follow-run k ks) ∙ go (run g (k ∷ ks)) refl
    where
      go : (o : Option ℕ) → run g (k ∷ ks) ≡ o → option_and_then (λ m. next ways m l) (counted o) ≡ counted (option_and_then (λ n. step_at g n l) o)
      go None e = refl
      go (Some n) e = at_node n l (run_inside g rules (k ∷ ks) n e)

-- ---- both graphs

module _ (t g : PlainGraph) (live_rules : IsGraph t) (rules : IsGraph g) (ways : List Way) (order : Ascend ways)
    (from : (w : Way) → IsIn ways w → IsIn (ways_of_both t g) w) (has : (w : Way) → IsIn (ways_of_both t g) w → IsIn ways w) where
  abbrev live_ways : List Way
  live_ways = ways_of t 0 (both_sizes t g)

  abbrev graph_ways : List Way
  graph_ways = ways_of g (length t.nodes) (both_sizes t g + 1)

  live_are : AreWaysOf ways t 0 (both_sizes t g)
  live_are = record {
    order = order;
    has = λ w h. has w (IsIn-append_left live_ways graph_ways w h);
    own = λ w h at. elim (IsIn-append_cases live_ways graph_ways w (from w h)) [
      | inl a ↦ a
      | inr b ↦ absurd (apart w at (from_range g (length t.nodes) (both_sizes t g + 1) rules w b))
    ];
    past = omega arith;
  }
    where
      apart : (w : Way) → (w.from ≡ both_sizes t g) ⊎ ((0 ≤ w.from) × (w.from < 0 + length t.nodes))
          → (w.from ≡ both_sizes t g + 1) ⊎ ((length t.nodes ≤ w.from) × (w.from < length t.nodes + length g.nodes)) → ⊥
      apart w (inl x) (inl y) = omega (arith, x, y)
      apart w (inl x) (inr y) = let up = y.1 in omega (arith, x, up)
      apart w (inr x) (inl y) = let below = x.1 in omega (arith, below, y)
      apart w (inr x) (inr y) = let below = x.1 in let low = y.0 in omega (arith, below, low)

  graph_are : AreWaysOf ways g (length t.nodes) (both_sizes t g + 1)
  graph_are = record {
    order = order;
    has = λ w h. has w (IsIn-append_right live_ways graph_ways w h);
    own = λ w h at. elim (IsIn-append_cases live_ways graph_ways w (from w h)) [
      | inl a ↦ absurd (apart w at (from_range t 0 (both_sizes t g) live_rules w a))
      | inr b ↦ b
    ];
    past = omega arith;
  }
    where
      apart : (w : Way) → (w.from ≡ both_sizes t g + 1) ⊎ ((length t.nodes ≤ w.from) × (w.from < length t.nodes + length g.nodes))
          → (w.from ≡ both_sizes t g) ⊎ ((0 ≤ w.from) × (w.from < 0 + length t.nodes)) → ⊥
      apart w (inl x) (inl y) = omega (arith, x, y)
      apart w (inl x) (inr y) = let below = y.1 in omega (arith, x, below)
      apart w (inr x) (inl y) = let up = x.1 in omega (arith, up, y)
      apart w (inr x) (inr y) = let low = x.0 in let below = y.1 in omega (arith, below, low)

-- the ways of both graphs, in order, are those of each
pub both_are : (t g : PlainGraph) → IsGraph t → IsGraph g → (ways : List Way) → Ascend ways → ((w : Way) → IsIn ways w ↔ IsIn (ways_of_both t g) w)
    → AreWaysOf ways t 0 (both_sizes t g) × AreWaysOf ways g (length t.nodes) (both_sizes t g + 1)
both_are t g live_rules rules ways order same = (
  live_are t g live_rules rules ways order (λ w. (same w).0) (λ w. (same w).1),
  graph_are t g live_rules rules ways order (λ w. (same w).0) (λ w. (same w).1),
)
