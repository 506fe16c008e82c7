-- The expression that a value of the code stands for.
use Rattle.std.specs.Prelude.{List, map}
use Rattle.path_exprs.specs.Expression.{Expression, never, empty, set, seq, either, both, complement, star, expressions_of}
use Rattle.path_exprs.specs.declared.expr.Expr.{Expr}
use Rattle.path_exprs.specs.declared.expr.Expr.TheOpen.{Expr-F}
use Rattle.path_exprs.specs.declared.expr.Expr.TheFolds.{fold-Expr}

-- one node, with the expression of each child in its place
abbrev pub view_step : Expr-F Expression → Expression
view_step Expr-F.Never = never
view_step Expr-F.Empty = empty
view_step (Expr-F.Set s) = set s
view_step (Expr-F.Seq a b) = seq a.value b.value
view_step (Expr-F.Either es) = either (expressions_of es.items)
view_step (Expr-F.Both es) = both (expressions_of es.items)
view_step (Expr-F.Not a) = complement a.value
view_step (Expr-F.Star a) = star a.value

abbrev pub view : Expr → Expression
view = fold-Expr Expression view_step

abbrev pub views : List Expr → List Expression
views es = map view es
