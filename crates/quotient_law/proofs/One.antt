-- A graph has one quotient, which is a graph.
use Rattle.std.proofs.Common.{◌≡◌, ℕ, ◌<◌, ◌==◌, sym, ap, ◌∙◌, subst, arith}
use Rattle.list_law.proofs.Changed.{map_same}
use Rattle.list_law.proofs.Members.{AllByRecursion-from_IsIn}
use Rattle.graph_base.specs.Graphs.{PlainGraph, IsGraph}
use Rattle.graph_base.proofs.RunSteps.{IsInside}
use Rattle.graph_base.proofs.StartsAndSteps.{in_step}
use Rattle.reach_prune.specs.Trimmed.{graph_kept}
use Rattle.reach_prune.proofs.Agreeing.{graph_kept_same}
use Rattle.reach_prune.proofs.Renumbering.{graph_kept_is_graph}
use Rattle.node_quotient.specs.Quotient.{AreLeast, IsQuotient, is_least, led_to}
use Rattle.node_quotient.proofs.Inside.{inside_of}
use Rattle.quotient_law.proofs.Led.{step_from_led}
use Rattle.std.specs.Prelude.{length}

module _ (g : PlainGraph) (ok : IsGraph g) where
  led_inside : (least : ℕ → ℕ) → AreLeast g least → IsInside (led_to least g)
  led_inside least are = record {
    starts = (inside_of g ok).starts;
    sources = λ m j h. let p = step_from_led least g m j h in (inside_of g ok).sources m p.0 p.1;
    steps = λ m j h. let p = step_from_led least g m j h in subst (λ x. x < length g.nodes) (sym p.2) (are.within p.0 ((inside_of g ok).steps m p.0 p.1));
  }

  led_is_graph : (least : ℕ → ℕ) → AreLeast g least → IsGraph (led_to least g)
  led_is_graph least are = record {
    count = ok.count;
    starts = ok.starts;
    steps = AllByRecursion-from_IsIn {A = ℕ × ℕ} (λ s. (s.0 < length g.nodes) × (s.1 < length g.nodes)) (led_to least g).steps (λ s h.
        let inside = led_inside least are in
        (inside.sources s.0 s.1 (in_step (led_to least g) s.0 s.1 h), inside.steps s.0 s.1 (in_step (led_to least g) s.0 s.1 h)));
  }

  pub quotient_is_graph : (least : ℕ → ℕ) → AreLeast g least → IsGraph (graph_kept (is_least least) (led_to least g))
  quotient_is_graph least are = graph_kept_is_graph (is_least least) (led_to least g) (led_is_graph least are)

  one_least : (least other : ℕ → ℕ) → AreLeast g least → AreLeast g other → (n : ℕ) → n < length g.nodes → least n ≡ other n
  one_least least other are are' n lt =
      let one = are.first (other n) n (are'.within n lt) lt (are'.joined n lt) in
      let two = are'.first (least n) n (are.within n lt) lt (are.joined n lt) in
      omega (arith, one, two)

  pub one_quotient : (q p : PlainGraph) → IsQuotient g q → IsQuotient g p → q ≡ p
  one_quotient q p h k =
      let same = one_least h.0 k.0 h.1 k.1 in
      let led : led_to h.0 g ≡ led_to k.0 g =
      (λ i. record {
        nodes = g.nodes;
        starts = g.starts;
        steps = map_same {A = ℕ × ℕ} {B = ℕ × ℕ} (λ s. (s.0, h.0 s.1)) (λ s. (s.0, k.0 s.1)) g.steps
            (λ s there. λ j. (s.0, same s.1 ((inside_of g ok).steps s.0 s.1 (in_step g s.0 s.1 there)) j)) i;
      }) in
      h.2 ∙ graph_kept_same (is_least h.0) (is_least k.0) (led_to h.0 g) (led_inside h.0 h.1) (λ n lt. ap (λ x. x == n) (same n lt))
      ∙ ap (graph_kept (is_least k.0)) led ∙ sym k.2
