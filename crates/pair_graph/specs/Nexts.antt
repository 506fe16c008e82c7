-- The pairs to which walks go on, in order of location.
use Rattle.std.specs.Prelude.{◌≡◌, ℕ, ◌<◌, List, Option, Some, slice_get}
use Rattle.pair_graph.specs.declared.pair.NodePair.{NodePair}

-- these are the pairs at the locations below b, in order
pub record AreNextsBelow (next : ℕ → Option NodePair) (pairs : List NodePair) (b : ℕ) : Type 0 where
  pub sound : (n : ℕ) (x : NodePair) → slice_get pairs n ≡ Some x → (next x.place ≡ Some x) × (x.place < b)
  pub all : (l : ℕ) (x : NodePair) → l < b → next l ≡ Some x → (n : ℕ) × (slice_get pairs n ≡ Some x)
  pub order : (m n : ℕ) (x y : NodePair) → m < n → slice_get pairs m ≡ Some x → slice_get pairs n ≡ Some y → x.place < y.place

-- these are the pairs at all locations, in order
pub record AreNexts (next : ℕ → Option NodePair) (pairs : List NodePair) : Type 0 where
  pub sound : (n : ℕ) (x : NodePair) → slice_get pairs n ≡ Some x → next x.place ≡ Some x
  pub all : (l : ℕ) (x : NodePair) → next l ≡ Some x → (n : ℕ) × (slice_get pairs n ≡ Some x)
  pub order : (m n : ℕ) (x y : NodePair) → m < n → slice_get pairs m ≡ Some x → slice_get pairs n ≡ Some y → x.place < y.place
