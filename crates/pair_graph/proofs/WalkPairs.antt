-- How walks of pairs go in two graphs.
use Rattle.std.proofs.Common.{◌≡◌, ◌⊎◌, ℕ, List, ◌∷◌, Option, Some, None, refl, sym, ap, inl, inr}
use Rattle.std.specs.Option.{option_and_then}
use Rattle.graph_base.specs.Graphs.{PlainGraph}
use Rattle.graph_base.specs.Runs.{run, start_at, step_at}
use Rattle.pair_graph.specs.declared.pair.NodePair.{NodePair}
use Rattle.pair_graph.specs.Growth.{AreWalks}
use Rattle.pair_graph.specs.Pairs.{joined, run_pair, step_pair, walks_of}

-- a pair is at its location, and one of its nodes is there
pub joined_parts : (l : ℕ) (a b : Option ℕ) (x : NodePair) → joined l a b ≡ Some x → (x.place ≡ l) × (((m : ℕ) × (a ≡ Some m)) ⊎ ((n : ℕ) × (b ≡ Some n)))
joined_parts l (Some m) b x h = (let is : record { place = l; first = Some m; second = b } ≡ x = cc in sym (ap (λ (y : NodePair). y.place) is), inl (m, refl))
joined_parts l None (Some n) x h = (let is : record { place = l; first = None; second = Some n } ≡ x = cc in sym (ap (λ (y : NodePair). y.place) is), inr (n, refl))
joined_parts l None None x h = absurd cc

pub are_walks : (g h : PlainGraph) → AreWalks (walks_of g h)
are_walks g h = record {
  starts = λ l x is. (joined_parts l (start_at g l) (start_at h l) x is).0;
  steps = λ x l y is. (joined_parts l (option_and_then (λ m. step_at g m l) x.first) (option_and_then (λ n. step_at h n l) x.second) y is).0;
}

-- the pair in which a longer walk ends is that to which the shorter one's pair steps
pub run_pair_next : (g h : PlainGraph) (l k : ℕ) (ls : List ℕ) → run_pair g h (l ∷ k ∷ ls) ≡ option_and_then (λ x. step_pair g h x l) (run_pair g h (k ∷ ls))
run_pair_next g h l k ls = by (run g (k ∷ ls)) (run h (k ∷ ls))
  where
    by : (a b : Option ℕ) → joined l (option_and_then (λ m. step_at g m l) a) (option_and_then (λ n. step_at h n l) b) ≡ option_and_then (λ x. step_pair g h x l) (joined k a b)
    by (Some m) b = refl
    by None (Some n) = refl
    by None None = refl
