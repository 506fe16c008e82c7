use Rattle.std.proofs.Common.{◌≡◌, ◌≤◌, drop, length}
use Rattle.path_exprs.specs.Expression.{expressions_of}
use Rattle.path_exprs.specs.Order.{compare_lists}
use Rattle.path_exprs.specs.View.{views}
use Rattle.path_exprs.proofs.order.+compare.Given as goal

abbrev pub invariant-compare_all-loop-i : goal.invariant-compare_all-loop-i
invariant-compare_all-loop-i l = record {
  in_range : l.i ≤ length l.fs;
  rest : compare_lists (expressions_of (views l.es)) (expressions_of (views l.fs)) ≡ compare_lists (expressions_of (views (drop l.i l.es))) (expressions_of (views (drop l.i l.fs)));
}
