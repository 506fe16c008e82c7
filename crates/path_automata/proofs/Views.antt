-- The expression of each value that joins others.
use Rattle.std.proofs.Common.{◌≡◌, Box, Vec, Global, rules}
use Rattle.path_exprs.specs.declared.expr.Expr.{Expr, Seq, Either, Both, the_lemmas}
use Rattle.path_exprs.specs.Expression.{seq, either, both, expressions_of}
use Rattle.path_exprs.specs.View.{view, views}

pub view-Seq : (a b : Box Expr Global) → view (Seq a b) ≡ seq (view a.value) (view b.value)
view-Seq a b = search (rules, the_lemmas)

pub view-Either : (es : Vec Expr Global) → view (Either es) ≡ either (expressions_of (views es.items))
view-Either es = search (rules, the_lemmas)

pub view-Both : (es : Vec Expr Global) → view (Both es) ≡ both (expressions_of (views es.items))
view-Both es = search (rules, the_lemmas)
