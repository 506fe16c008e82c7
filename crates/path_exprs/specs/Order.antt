-- The order of expressions: by their variants, then by their fields from left to right. Lists go member by member, a prefix first.
use Rattle.std.specs.Prelude.{◌≡◌, ℕ, List, [], ◌∷◌}
use Rattle.std.specs.List.{AllByRecursion}
use Rattle.std.specs.declared.cmp.Ordering.{Ordering}
use Rattle.std.specs.declared.cmp.Ordering.TheVariants.{Less, Equal, Greater}
use Rattle.std.specs.Ordering.{nat_cmp, ordering_then}
use Rattle.std.specs.Cmp.Lexicographic.{slice_cmp}
use Rattle.path_exprs.specs.Expression.{Expression, never, empty, set, seq, either, both, complement, star, Expressions, none, more}

-- the place of the variant
abbrev pub variant : Expression → ℕ
variant never = 0
variant empty = 1
variant (set s) = 2
variant (seq a b) = 3
variant (either es) = 4
variant (both es) = 5
variant (complement a) = 6
variant (star a) = 7

abbrev mutual
  pub compare : Expression → Expression → Ordering
  compare (set s) (set t) = slice_cmp nat_cmp s.words t.words
  compare (seq a b) (seq c d) = ordering_then (compare a c) (compare b d)
  compare (either es) (either fs) = compare_lists es fs
  compare (both es) (both fs) = compare_lists es fs
  compare (complement a) (complement b) = compare a b
  compare (star a) (star b) = compare a b
  compare e f = nat_cmp (variant e) (variant f)

  pub compare_lists : Expressions → Expressions → Ordering
  compare_lists none none = Equal
  compare_lists none (more f fs) = Less
  compare_lists (more e es) none = Greater
  compare_lists (more e es) (more f fs) = ordering_then (compare e f) (compare_lists es fs)

-- each comes strictly before all later ones
abbrev pub Ascends : List Expression → Type 0
Ascends [] = Unit {0}
Ascends (e ∷ es) = AllByRecursion (λ f. compare e f ≡ Less) es × Ascends es
