use Rattle.std.proofs.Common.{◌≡◌, ◌<◌, ℕ, eqb, get_or, length}
use Rattle.graph_base.specs.Runs.{place_of}
use Rattle.relation_law.specs.Numbers.{count_below}
use Rattle.relation_refute.specs.Cells.{spot_of}
use Rattle.relation_refute.proofs.cells.numbered_spots.Given as goal

abbrev pub invariant-loop-node : goal.invariant-loop-node
invariant-loop-node l = record {
  len : length l.spots.items ≡ l.node;
  places : length l.counts ≡ length l.initial.counts;
  spots : (m : ℕ) → m < l.node → get_or l.spots.items m 0 ≡ spot_of l.graph m;
  counts : (k : ℕ) → k < length l.counts → get_or l.counts k 0 ≡ count_below l.node (λ n. eqb (place_of l.graph n) k);
}
