use Rattle.std.proofs.Common.{◌≡◌, ℕ, ◌<◌, take}
use Rattle.std.specs.Prelude.{◌&&◌, ◌||◌, ◌==◌}
use Rattle.bit_rows.specs.Tables.{IsSameSize, has_at}
use Rattle.lint_ranks.specs.Marks.{some_has_rank}
use Rattle.lint_ranks.proofs.marks.mark_ranks.Given as goal

abbrev pub invariant-loop-node : goal.invariant-loop-node
invariant-loop-node l = record {
  size : IsSameSize l.marks l.fn.marks;
  bits : (r b : ℕ) → r < l.fn.marks.count → has_at l.marks r b ≡ (has_at l.fn.marks r b || (r == l.row && some_has_rank b (take l.node-index l.nodes)));
}
