-- The expressions of the terms that were found, in the order of their numbers.
use Rattle.std.specs.Prelude.{ℕ, List}
use Rattle.path_exprs.specs.Expression.{Expression}
use Rattle.path_terms.specs.Terms.{expressions, at}
use Rattle.path_terms.specs.declared.store.Terms.{Terms}

abbrev pub values : Terms → List Expression
values s = expressions s.found.keys

abbrev pub value : Terms → ℕ → Expression
value s n = at (values s) n
