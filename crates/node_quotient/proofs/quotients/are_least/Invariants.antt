use Rattle.std.proofs.Common.{◌≡◌, ◌==◌, ℕ, ◌<◌, ◌≤◌, length}
use Rattle.reach_prune.specs.Searches.{is_marked}
use Rattle.node_quotient.specs.Alike.{class_in}
use Rattle.node_quotient.proofs.quotients.are_least.Given as goal

abbrev pub invariant-loop-node : goal.invariant-loop-node
invariant-loop-node l = record {
  end : l.node ≤ length l.least;
  size : length l.marks.items ≡ l.node;
  marks : (n : ℕ) → n < l.node → is_marked l.marks.items n ≡ (class_in l.least n == n);
}
