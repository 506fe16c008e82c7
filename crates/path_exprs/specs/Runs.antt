-- What is left of expressions after a list of locations, one derivative after another.
use Rattle.std.specs.Prelude.{ℕ, List, [], ◌∷◌, map, Option}
use Rattle.net_base.specs.declared.loc.LocSet.{LocSet}
use Rattle.policy_base.specs.Meaning.{place_of}
use Rattle.path_exprs.specs.Expression.{Expression}
use Rattle.path_exprs.specs.Membership.{member}
use Rattle.path_exprs.specs.Normal.{normal, reversed}
use Rattle.path_exprs.specs.Derivative.{derivative}

abbrev pub along : List ℕ → List Expression → List Expression
along [] es = es
along (x ∷ xs) es = along xs (map (derivative x) es)

-- the start: each expression reversed, in its normal form; the set `full` is that of all locations
abbrev pub start_of : LocSet → List Expression → List Expression
start_of full es = map (λ e. normal full (reversed e)) es

-- the least place, from 1, of an expression that holds the list
abbrev pub first_with : List ℕ → List Expression → Option ℕ
first_with xs es = place_of (map member es) xs 1
