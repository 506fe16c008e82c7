use Rattle.std.proofs.Common.{◌≡◌, ◌<◌, ℕ, length}
use Rattle.settled_graph.specs.Best.{entry_at, wanted_by}
use Rattle.settled_graph.proofs.best.numbers_wanted.Given as goal

abbrev pub invariant-loop-place : goal.invariant-loop-place
invariant-loop-place l = record {
  size : length l.wanted.items ≡ l.place;
  numbers : (i : ℕ) → i < l.place → entry_at l.wanted.items i ≡ wanted_by l.numbers l.choosers l.best i;
}
