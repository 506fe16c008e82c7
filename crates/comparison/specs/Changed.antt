-- When two policies say otherwise of a pair.
use Rattle.std.specs.Prelude.{Bool, true, false, not, ◌||◌, List, [], ◌∷◌, Option, Some, None}
use Rattle.net_base.specs.declared.loc.LocSet.{LocSet}
use Rattle.net_base.specs.Network.{PlainNet}
use Rattle.net_base.specs.NetSets.{peers}
use Rattle.net_base.specs.Sets.{same_set}
use Rattle.compare_base.specs.declared.cases.CasePair.{CasePair}
use Rattle.compare_base.specs.declared.rows.Kind.{Kind}
use Rattle.comparison.specs.declared.values.ComparedPair.{ComparedPair}

-- the origins as a set: these routers, or all peers
abbrev pub origin_set : PlainNet → Option LocSet → LocSet
origin_set net None = peers net
origin_set net (Some at) = at

abbrev pub have_same_origins : PlainNet → CasePair → Bool
have_same_origins net cases = same_set (origin_set net cases.old.origins) (origin_set net cases.new.origins)

abbrev pub is_nothing : List Kind → Bool
is_nothing [] = true
is_nothing (kind ∷ kinds) = false

-- the origins differ, or some place does
abbrev pub is_changed : PlainNet → ComparedPair → Bool
is_changed net c = not (have_same_origins net c.pair.cases) || not (is_nothing c.change.kinds)
