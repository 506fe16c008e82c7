use Rattle.std.proofs.Common.{◌≡◌, ◌<◌, ℕ, IsTrue, slice_index_or, length, false}
use Rattle.graph_base.specs.Runs.{place_of}
use Rattle.state_simulation.proofs.apart.stand_apart.Given as goal

abbrev pub invariant-loop-node : goal.invariant-loop-node
invariant-loop-node l = record {
  count : length l.met.items ≡ length l.initial.met.items;
  marked : (n : ℕ) → n < l.node → IsTrue (slice_index_or l.met.items (place_of l.graph n) false);
  only : (p : ℕ) → IsTrue (slice_index_or l.met.items p false) → (n : ℕ) × (n < l.node) × (place_of l.graph n ≡ p);
  apart : (m n : ℕ) → m < l.node → n < l.node → place_of l.graph m ≡ place_of l.graph n → m ≡ n;
}
