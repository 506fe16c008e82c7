-- The lists and the marks of a graph, and its quotient.
use Rattle.std.proofs.Common.{◌≡◌, ℕ, ◌<◌, Bool, true, ◌==◌, List, [], ◌∷◌, map, length, sym, ap, ◌∙◌, arith}
use Rattle.std.specs.List.{AllByRecursion}
use Rattle.std.specs.Prelude.{slice_index_or}
use Rattle.std.proofs.lemmas.List.{get_or_default}
use Rattle.graph_base.specs.Graphs.{PlainGraph, IsGraph}
use Rattle.reach_prune.specs.Searches.{AreLists, is_among, is_listed, is_marked}
use Rattle.reach_prune.specs.Trimmed.{graph_kept}
use Rattle.reach_prune.proofs.Agreeing.{graph_kept_same}
use Rattle.node_quotient.specs.Alike.{AreInside, class_in}
use Rattle.node_quotient.specs.Quotient.{AreLeast, IsQuotient, is_least, led_to}
use Rattle.node_quotient.proofs.Inside.{inside_of}
use Rattle.node_quotient.proofs.Turns.{among_get}

-- the lists of a graph's steps name its nodes
pub lists_inside : (lists : List (List ℕ)) (size : ℕ) → length lists ≡ size → AreLists lists → AreInside lists size
lists_inside lists size e are n d lt k d' lk =
    let list = slice_index_or lists n d in
    let there : is_listed lists n (slice_index_or list k d') ≡ true = ap (λ xs. is_among xs (slice_index_or list k d')) (sym (get_or_default lists n d [] lt)) ∙ among_get list k d' lk in
    let less = are n (slice_index_or list k d') there in
    omega (arith, less, e)

module _ (g : PlainGraph) (ok : IsGraph g) (least : List ℕ) (is : AreLeast g (class_in least)) where
  pub led_is_graph : IsGraph (led_to (class_in least) g)
  led_is_graph = record {
    count = ok.count;
    starts = ok.starts;
    steps = led_steps g.steps ok.steps;
  }
    where
      led_steps : (steps : List (ℕ × ℕ)) → AllByRecursion (λ (s : ℕ × ℕ). (s.0 < length g.nodes) × (s.1 < length g.nodes)) steps →
          AllByRecursion (λ (s : ℕ × ℕ). (s.0 < length g.nodes) × (s.1 < length g.nodes)) (map (λ (s : ℕ × ℕ). (s.0, class_in least s.1)) steps)
      led_steps [] all = tt
      led_steps (s ∷ ss) all = ((all.0.0, is.within s.1 all.0.1), led_steps ss all.1)

  pub kept_is_quotient : (marks : List Bool) (q : PlainGraph) → ((n : ℕ) → n < length g.nodes → is_marked marks n ≡ (class_in least n == n))
      → q ≡ graph_kept (is_marked marks) (led_to (class_in least) g) → IsQuotient g q
  kept_is_quotient marks q marked e = (
    class_in least,
    is,
    e
        ∙ graph_kept_same (is_marked marks) (is_least (class_in least)) (led_to (class_in least) g)
        (inside_of (led_to (class_in least) g) led_is_graph) marked,
  )
