-- The normal form, which is made whenever an expression is made of normal ones. The set `full` is that of all locations.
use Rattle.std.specs.Prelude.{◌==◌, List, [], ◌∷◌, Bool, true, false, if◌then◌else◌}
use Rattle.std.specs.Ordering.{match_ordering}
use Rattle.std.specs.List.{list_all, list_any, flat_map}
use Rattle.net_base.specs.declared.loc.LocSet.{LocSet}
use Rattle.net_base.specs.Sets.{same_set}
use Rattle.path_exprs.specs.Expression.{Expression, never, empty, set, seq, either, both, complement, star, Expressions, none, more, expressions_of, list_of}
use Rattle.path_exprs.specs.Order.{compare}

abbrev pub all : Expression
all = complement never

abbrev pub is_all : Expression → Bool
is_all (complement never) = true
is_all e = false

abbrev pub is_never : Expression → Bool
is_never never = true
is_never e = false

abbrev pub normal_set : LocSet → Expression
normal_set s = if list_all (λ w. w == 0) s.words then never else set s

-- a sequence of two sides, neither of them Never or Empty, with its own first side no sequence
abbrev pub after : Expression → Expression → Expression
after (seq a b) c = seq a (after b c)
after a c = seq a c

-- the same, where the second side may be Never or Empty
abbrev pub before : Expression → Expression → Expression
before a never = never
before a empty = a
before a b = after a b

abbrev pub seq_of : Expression → Expression → Expression
seq_of never b = never
seq_of empty b = b
seq_of a b = before a b

-- puts an expression in its place, where it isn't there already
abbrev pub insert : Expression → List Expression → List Expression
insert e [] = e ∷ []
insert e (f ∷ fs) = match_ordering (compare e f) (e ∷ f ∷ fs) (f ∷ fs) (f ∷ insert e fs)

abbrev pub insert_each : List Expression → List Expression → List Expression
insert_each [] fs = fs
insert_each (e ∷ es) fs = insert_each es (insert e fs)

-- in ascending order and without repeats
abbrev pub sorted : List Expression → List Expression
sorted es = insert_each es []

-- what a member adds to an alternation: Never nothing, an alternation its members
abbrev pub either_parts : Expression → List Expression
either_parts never = []
either_parts (either es) = list_of es
either_parts e = e ∷ []

abbrev pub either_from : List Expression → Expression
either_from [] = never
either_from (e ∷ []) = e
either_from es = either (expressions_of es)

abbrev pub either_of : List Expression → Expression
either_of es =
    let fs = sorted (flat_map either_parts es) in
    if list_any is_all fs then all else either_from fs

-- what a member adds to an intersection: Not(Never) nothing, an intersection its members
abbrev pub both_parts : Expression → List Expression
both_parts (complement never) = []
both_parts (both es) = list_of es
both_parts e = e ∷ []

abbrev pub both_from : List Expression → Expression
both_from [] = all
both_from (e ∷ []) = e
both_from es = both (expressions_of es)

abbrev pub both_of : List Expression → Expression
both_of es =
    let fs = sorted (flat_map both_parts es) in
    if list_any is_never fs then never else both_from fs

abbrev pub complement_of : Expression → Expression
complement_of (complement a) = a
complement_of a = complement a

abbrev pub star_of : LocSet → Expression → Expression
star_of full never = empty
star_of full empty = empty
star_of full (star a) = star a
star_of full (set s) = if same_set s full then all else star (set s)
star_of full (complement never) = all
star_of full a = star a

-- the normal form of any expression
abbrev mutual
  pub normal : LocSet → Expression → Expression
  normal full never = never
  normal full empty = empty
  normal full (set s) = normal_set s
  normal full (seq a b) = seq_of (normal full a) (normal full b)
  normal full (either es) = either_of (normal_each full es)
  normal full (both es) = both_of (normal_each full es)
  normal full (complement a) = complement_of (normal full a)
  normal full (star a) = star_of full (normal full a)

  pub normal_each : LocSet → Expressions → List Expression
  normal_each full none = []
  normal_each full (more e es) = normal full e ∷ normal_each full es

-- Seq(a, b) becomes Seq(reverse b, reverse a), and the rest stays in place
abbrev mutual
  pub reversed : Expression → Expression
  reversed never = never
  reversed empty = empty
  reversed (set s) = set s
  reversed (seq a b) = seq (reversed b) (reversed a)
  reversed (either es) = either (reversed_each es)
  reversed (both es) = both (reversed_each es)
  reversed (complement a) = complement (reversed a)
  reversed (star a) = star (reversed a)

  pub reversed_each : Expressions → Expressions
  reversed_each none = none
  reversed_each (more e es) = more (reversed e) (reversed_each es)
