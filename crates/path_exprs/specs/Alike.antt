-- The laws of the comparison of values.
use Rattle.std.proofs.Common.{◌≡◌, true, IsTrue, ap}
use Rattle.std.specs.Cmp.{IsTotalOrder, IsEquivalence}
use Rattle.std.specs.Ordering.{is_eq, on, eq_by_cmp}
use Rattle.std.proofs.lemmas.Cmp.{on_total, eq_by_cmp_equiv}
use Rattle.list_law.proofs.Orders.{is_eq-Equal}
use Rattle.path_exprs.specs.declared.expr.Expr.{Expr}
use Rattle.path_exprs.specs.Order.{compare}
use Rattle.path_exprs.specs.View.{view}
use Rattle.path_exprs.specs.Writes.{writes}
use Rattle.path_exprs.specs.Ordered.{compare-equal}
use Rattle.path_exprs.specs.Total.{compare_total}

pub value_total : IsTotalOrder (on view compare)
value_total = on_total view compare_total

pub value_equivalence : IsEquivalence (eq_by_cmp (on view compare))
value_equivalence = eq_by_cmp_equiv value_total

pub equal_views : (x y : Expr) → is_eq (compare (view x) (view y)) ≡ true → view x ≡ view y
equal_views x y h = compare-equal (view x) (view y) (is_eq-Equal (compare (view x) (view y)) h)

pub equal_writes : (x y : Expr) → IsTrue (is_eq (compare (view x) (view y))) → writes (view x) ≡ writes (view y)
equal_writes x y h = ap writes (equal_views x y h)
