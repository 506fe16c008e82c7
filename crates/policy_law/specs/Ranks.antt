-- Where a `>>` stands under an `or` or a `not`.
use Rattle.std.specs.Prelude.{List, [], ◌∷◌, ◌++◌, Option, Some, None}
use Rattle.net_base.specs.declared.place.Place.{Place}
use Rattle.policy_law.specs.Trees.{Expression, call, above, either, both, negated, Written, define, originate, state}

abbrev pub place_of : Option Place → List Place
place_of (Some p) = p ∷ []
place_of None = []

-- Each `>>` of an expression, in the order of the text. Of those between the sets of one call it is the first.
abbrev pub ranks : Expression → List Place
ranks (call c) = place_of c.above
ranks (above a p b) = ranks a ++ p ∷ ranks b
ranks (either a b) = ranks a ++ ranks b
ranks (both a b) = ranks a ++ ranks b
ranks (negated a) = ranks a

-- Each of them that stands under an `or` or a `not`: none may.
abbrev pub ranks_under : Expression → List Place
ranks_under (call c) = []
ranks_under (above a p b) = ranks_under a ++ ranks_under b
ranks_under (either a b) = ranks a ++ ranks b
ranks_under (both a b) = ranks_under a ++ ranks_under b
ranks_under (negated a) = ranks a

-- those of an item
abbrev pub ranks_under_in : Written → List Place
ranks_under_in (define name members) = []
ranks_under_in (originate prefix names) = []
ranks_under_in (state patterns e from) = ranks_under e
