-- Lists of expressions as members.
use Rattle.std.proofs.Common.{◌≡◌, List, [], ◌∷◌, refl, ap}
use Rattle.path_exprs.specs.Expression.{Expression, expressions_of, list_of}

pub list_of-expressions_of : (es : List Expression) → list_of (expressions_of es) ≡ es
list_of-expressions_of [] = refl
list_of-expressions_of (e ∷ es) = ap (λ l. e ∷ l) (list_of-expressions_of es)
