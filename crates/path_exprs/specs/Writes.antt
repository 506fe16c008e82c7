-- What an expression feeds a hasher.
use Rattle.std.specs.Prelude.{ℕ, List, [], ◌++◌}
use Rattle.std.specs.Hash as fed
use Rattle.std.specs.List.{flat_map}
use Rattle.path_exprs.specs.Expression.{Expression, never, empty, set, seq, either, both, complement, star, Expressions, none, more}

abbrev mutual
  pub writes : Expression → List (List ℕ)
  writes never = fed.u8 0
  writes empty = fed.u8 1
  writes (set s) = fed.u8 2 ++ flat_map fed.u64 s.words
  writes (seq a b) = fed.u8 3 ++ (writes a ++ writes b)
  writes (either es) = fed.u8 4 ++ writes_each es
  writes (both es) = fed.u8 5 ++ writes_each es
  writes (complement a) = fed.u8 6 ++ writes a
  writes (star a) = fed.u8 7 ++ writes a

  pub writes_each : Expressions → List (List ℕ)
  writes_each none = []
  writes_each (more e es) = writes e ++ writes_each es
