-- The starts and steps of a graph as ways.
use Rattle.std.proofs.Common.{◌≡◌, ℕ, ◌≤◌, Bool, true, false, List, [], ◌∷◌, map, length, Option, Some, None, refl, ap, ◌∙◌, arith, inl, inr}
use Rattle.std.specs.Prelude.{◌==◌, ◌&&◌, option_map}
use Rattle.std.specs.List.{find}
use Rattle.list_law.proofs.Options.{cases_Option}
use Rattle.graph_base.specs.Graphs.{PlainGraph, IsGraph}
use Rattle.graph_base.specs.Runs.{place_of, step_at}
use Rattle.graph_base.proofs.StartsAndSteps.{step_at-is, step_nodes}
use Rattle.pair_graph.specs.declared.way.Way.{Way}
use Rattle.pair_graph.specs.Ways.{AreStarts, AreSteps, comes_from}
use Rattle.pair_graph.proofs.Turns.{find-filter}

abbrev pub start_way : PlainGraph → ℕ → Way
start_way g n = record { from = 0; place = place_of g n; to = n }

abbrev pub step_way : PlainGraph → ℕ × ℕ → Way
step_way g s = record { from = s.0; place = place_of g s.1; to = s.1 }

find-map : {A B : Type 0} (p : B → Bool) (f : A → B) (xs : List A) → find p (map f xs) ≡ option_map f (find (λ x. p (f x)) xs)
find-map p f [] = refl
find-map p f (x ∷ xs) = by (p (f x)) refl (find-map p f xs)
  where
    by : (b : Bool) → p (f x) ≡ b → find p (map f xs) ≡ option_map f (find (λ y. p (f y)) xs) → find p (map f (x ∷ xs)) ≡ option_map f (find (λ y. p (f y)) (x ∷ xs))
    by true e rest = rw e refl
    by false e rest = rw e rest

pub starts_taken : (g : PlainGraph) → AreStarts g (map (start_way g) g.starts)
starts_taken g l = ap (option_map (λ (w : Way). w.to)) (find-map (λ (w : Way). w.place == l) (start_way g) g.starts) ∙ back (find (λ n. place_of g n == l) g.starts)
  where
    back : (o : Option ℕ) → option_map (λ (w : Way). w.to) (option_map (start_way g) o) ≡ o
    back None = refl
    back (Some n) = refl

pub steps_taken : (g : PlainGraph) → AreSteps g (map (step_way g) g.steps)
steps_taken g n l =
    ap (option_map (λ (w : Way). w.to))
    (find-filter (λ (w : Way). w.place == l) (comes_from n) (map (step_way g) g.steps) ∙ find-map (λ (w : Way). w.from == n && w.place == l) (step_way g) g.steps)
    ∙ back (find (λ (s : ℕ × ℕ). s.0 == n && place_of g s.1 == l) g.steps)
  where
    back : (o : Option (ℕ × ℕ)) → option_map (λ (w : Way). w.to) (option_map (step_way g) o) ≡ option_map (λ (s : ℕ × ℕ). s.1) o
    back None = refl
    back (Some s) = refl

-- what isn't a node steps nowhere
pub no_steps : (g : PlainGraph) (n l : ℕ) → IsGraph g → length g.nodes ≤ n → step_at g n l ≡ None
no_steps g n l rules ge = elim (cases_Option (step_at g n l)) [
  | inl none ↦ none
  | inr some ↦ absurd (let is = step_at-is g n l some.0 some.1 in let nodes = step_nodes g n some.0 rules is.0 in omega (arith, nodes.0, ge))
]
