-- A graph in which no two nodes have one location and one rank is its own quotient.
use Rattle.std.proofs.Common.{◌≡◌, ℕ, zero, suc, ◌+◌, Bool, true, ◌&&◌, List, [], ◌∷◌, length, map, filter, refl, sym, ap, ap₂, ◌∙◌, arith, map-id}
use Rattle.std.proofs.lemmas.Bool.{cond-true, eq-eqb}
use Rattle.list_law.proofs.Changed.{map_same}
use Rattle.list_law.proofs.Kept.{kept_below-kept}
use Rattle.list_law.specs.Counts.{kept_below}
use Rattle.graph_base.specs.declared.graph.Node.{Node}
use Rattle.graph_base.specs.Graphs.{PlainGraph}
use Rattle.reach_prune.specs.Trimmed.{both_kept, graph_kept, nodes_kept, renumbered}
use Rattle.node_quotient.specs.Alike.{AreAlone, AreFirstSame}
use Rattle.node_quotient.specs.Quotient.{AreLeast, IsQuotient, is_least, led_to}
use Rattle.node_quotient.proofs.Least.{joined_rank, joined_refl}

filter_all : {A : Type 0} (p : A → Bool) → ((x : A) → p x ≡ true) → (xs : List A) → filter p xs ≡ xs
filter_all p all [] = refl
filter_all p all (x ∷ xs) = cond-true (p x) (x ∷ filter p xs) (filter p xs) (all x) ∙ ap (λ ys. x ∷ ys) (filter_all p all xs)

-- a graph of which every node is kept
module _ (keep : ℕ → Bool) (all : (n : ℕ) → keep n ≡ true) where
  nodes_all : (k : ℕ) (nodes : List Node) → nodes_kept keep k nodes ≡ nodes
  nodes_all k [] = refl
  nodes_all k (node ∷ nodes) =
      cond-true (keep k) (node ∷ nodes_kept keep (k + 1) nodes) (nodes_kept keep (k + 1) nodes) (all k) ∙ ap (λ xs. node ∷ xs) (nodes_all (k + 1) nodes)

  number_all : (n : ℕ) → kept_below keep n ≡ n
  number_all zero = refl
  number_all (suc n) = let more = kept_below-kept keep n (all n) in let rest = number_all n in omega (arith, more, rest)

  graph_all : (g : PlainGraph) → graph_kept keep g ≡ g
  graph_all g = λ i. record { nodes = nodes_all 0 g.nodes i; starts = starts i; steps = steps i }
    where
      starts : map (kept_below keep) (filter keep g.starts) ≡ g.starts
      starts =
          map_same (kept_below keep) (λ n. n) (filter keep g.starts) (λ n _. number_all n)
          ∙ map-id (filter keep g.starts) ∙ filter_all keep all g.starts

      steps : map (renumbered keep) (filter (both_kept keep) g.steps) ≡ g.steps
      steps =
          map_same (renumbered keep) (λ s. s) (filter (both_kept keep) g.steps) (λ s _. λ i. (number_all s.0 i, number_all s.1 i))
          ∙ map-id (filter (both_kept keep) g.steps) ∙ filter_all (both_kept keep) (λ s. ap₂ (λ a b. a && b) (all s.0) (all s.1)) g.steps

module _ (g : PlainGraph) (first : List ℕ) (are : AreFirstSame g (length g.nodes) first) (alone : AreAlone first) where
  each_is_least : AreLeast g (λ n. n)
  each_is_least = record {
    within = λ n lt. lt;
    joined = λ n lt. joined_refl g n;
    first = λ m n lm ln h.
        let le = are.first m n ln (record { place = h.place; rank = joined_rank g m n h }) in
        let size = are.size in
        let one = alone n (omega (arith, ln, size)) in
        omega (arith, le, one);
  }

  pub alone_is_quotient : IsQuotient g g
  alone_is_quotient = (λ n. n, each_is_least, sym (ap (graph_kept keep) led ∙ graph_all keep (λ n. eq-eqb n n refl) g))
    where
      keep : ℕ → Bool
      keep = is_least (λ n. n)

      led : led_to (λ n. n) g ≡ g
      led = λ i. record { nodes = g.nodes; starts = g.starts; steps = map-id g.steps i }
