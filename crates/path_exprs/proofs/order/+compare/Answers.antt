use Rattle.std.proofs.Common.{◌≡◌, ℕ, zero, suc, ◌<◌, ◌≤◌, List, [], ◌∷◌, length, drop, refl, sym, ◌∙◌, arith}
use Rattle.std.specs.declared.cmp.Ordering.TheVariants.{Less, Greater}
use Rattle.path_exprs.specs.Expression.{expressions_of}
use Rattle.path_exprs.specs.Order.{compare_lists}
use Rattle.path_exprs.specs.View.{views}
use Rattle.path_exprs.specs.declared.expr.Expr.{Expr}
use Rattle.path_exprs.proofs.order.+compare.Goals as goal

drop-nothing : (i : ℕ) → drop {A = Expr} i [] ≡ []
drop-nothing zero = refl
drop-nothing (suc i) = refl

longer : (es fs : List Expr) (i : ℕ) → i < length es → length fs ≤ i → compare_lists (expressions_of (views (drop i es))) (expressions_of (views (drop i fs))) ≡ Greater
longer [] fs i p q = absurd (omega arith)
longer (e ∷ es) [] zero p q = refl
longer (e ∷ es) (f ∷ fs) zero p q = absurd (omega arith)
longer (e ∷ es) [] (suc i) p q = rw (drop-nothing i) at (longer es [] i (omega arith) (omega arith))
longer (e ∷ es) (f ∷ fs) (suc i) p q = longer es fs i (omega arith) (omega arith)

shorter : (es fs : List Expr) (i : ℕ) → i < length fs → length es ≤ i → compare_lists (expressions_of (views (drop i es))) (expressions_of (views (drop i fs))) ≡ Less
shorter es [] i p q = absurd (omega arith)
shorter [] (f ∷ fs) zero p q = refl
shorter (e ∷ es) (f ∷ fs) zero p q = absurd (omega arith)
shorter [] (f ∷ fs) (suc i) p q = rw (drop-nothing i) at (shorter [] fs i (omega arith) (omega arith))
shorter (e ∷ es) (f ∷ fs) (suc i) p q = shorter es fs i (omega arith) (omega arith)

pub compare_all-returns-then-i-fs : goal.compare_all-returns-then-i-fs
compare_all-returns-then-i-fs t c =
    sym (c.loop-i.invariant.rest ∙ longer _ _ _ c.loop-i-test.true c.if-i-fs.true)

pub compare_all-returns-then-es-fs : goal.compare_all-returns-then-es-fs
compare_all-returns-then-es-fs t c =
    sym (c.loop-i.invariant.rest ∙ shorter c.args.es.now c.args.fs.now c.loop-i.i (omega arith) (omega arith))
