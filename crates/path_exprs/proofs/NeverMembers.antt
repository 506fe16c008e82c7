-- What never matches holds no list.
use Rattle.std.proofs.Common.{◌≡◌, ℕ, List, true, false, refl}
use Rattle.path_exprs.specs.Expression.{Expression, never}
use Rattle.path_exprs.specs.Membership.{member}
use Rattle.path_exprs.specs.Normal.{is_never}

pub member-is_never : (e : Expression) (xs : List ℕ) → is_never e ≡ true → member e xs ≡ false
member-is_never never xs h = refl
member-is_never e xs h = cc
