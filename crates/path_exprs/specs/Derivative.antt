-- The derivative of a normal expression by a location, normal again.
use Rattle.std.specs.Prelude.{ℕ, List, [], ◌∷◌, if◌then◌else◌}
use Rattle.net_base.specs.Sets.{holds}
use Rattle.path_exprs.specs.Expression.{Expression, never, empty, set, seq, either, both, complement, star, Expressions, none, more}
use Rattle.path_exprs.specs.Membership.{member}
use Rattle.path_exprs.specs.Normal.{seq_of, either_of, both_of, complement_of}

abbrev mutual
  pub derivative : ℕ → Expression → Expression
  derivative x never = never
  derivative x empty = never
  derivative x (set s) = if holds s x then empty else never
  derivative x (seq a b) =
      let front = seq_of (derivative x a) b in
      if member a [] then either_of (front ∷ derivative x b ∷ []) else front
  derivative x (either es) = either_of (derivative_each x es)
  derivative x (both es) = both_of (derivative_each x es)
  derivative x (complement a) = complement_of (derivative x a)
  derivative x (star a) = seq_of (derivative x a) (star a)

  pub derivative_each : ℕ → Expressions → List Expression
  derivative_each x none = []
  derivative_each x (more e es) = derivative x e ∷ derivative_each x es
