use Rattle.std.proofs.Common.{◌≡◌, ℕ, ◌==◌, length, take}
use Rattle.std.specs.List.{list_any}
use Rattle.reach_prune.specs.Searches.{is_marked}
use Rattle.walk_check.proofs.formed.start_marks.Given as goal

abbrev pub invariant-loop-start : goal.invariant-loop-start
invariant-loop-start l = record {
  size : length l.marks.items ≡ length l.graph.nodes;
  marks : (n : ℕ) → is_marked l.marks.items n ≡ list_any (λ s. s == n) (take l.start-index l.start-items);
}
