use Rattle.std.proofs.Common.{◌≡◌, ℕ, IsTrue, length}
use Rattle.reach_prune.specs.Searches.{is_marked}
use Rattle.walk_check.specs.Formed.{CanBeReached}
use Rattle.walk_check.proofs.ended.pass_on.Given as goal

abbrev pub invariant-loop-step : goal.invariant-loop-step
invariant-loop-step l = record {
  size : length l.marks.items ≡ length l.graph.nodes;
  reached : (n : ℕ) → IsTrue (is_marked l.marks.items n) → CanBeReached l.graph n;
}
