-- The expressions that were put one behind the other, in the order of their numbers.
use Rattle.std.specs.Prelude.{List}
use Rattle.path_exprs.specs.Expression.{Expression}
use Rattle.path_exprs.specs.Parts.{expressions_of_parts}
use Rattle.path_exprs.specs.declared.parts.Parts.{Parts}

abbrev pub values : Parts → List Expression
values p = expressions_of_parts p.all.items
