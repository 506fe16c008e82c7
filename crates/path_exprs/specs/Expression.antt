-- Expressions over locations, without where they lie in memory.
use Rattle.std.specs.Prelude.{List, [], ◌∷◌}
use Rattle.net_base.specs.declared.loc.LocSet.{LocSet}

mutual
  pub data Expression : Type 0 where
    never : Expression
    empty : Expression
    set : LocSet → Expression
    seq : Expression → Expression → Expression
    either : Expressions → Expression
    both : Expressions → Expression
    complement : Expression → Expression
    star : Expression → Expression

  pub data Expressions : Type 0 where
    none : Expressions
    more : Expression → Expressions → Expressions

abbrev pub expressions_of : List Expression → Expressions
expressions_of [] = none
expressions_of (e ∷ es) = more e (expressions_of es)

abbrev pub list_of : Expressions → List Expression
list_of none = []
list_of (more e es) = e ∷ list_of es
