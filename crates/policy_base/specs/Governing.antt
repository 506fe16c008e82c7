-- Which statement governs a prefix, and where the prefix comes from.
use Rattle.std.specs.Prelude.{ℕ, ◌+◌, Bool, List, [], ◌∷◌, Option, Some, None, if◌then◌else◌}
use Rattle.std.specs.List.{list_any}
use Rattle.net_base.specs.declared.loc.LocSet.{LocSet}
use Rattle.net_base.specs.Network.{PlainNet, is_peer}
use Rattle.net_base.specs.Sets.{holds}
use Rattle.net_base.specs.Prefixes.{PlainPrefix, PlainPattern, contains, same_prefix}
use Rattle.policy_base.specs.declared.policy.Origin.{Origin}
use Rattle.policy_base.specs.Policies.{PlainStatement, PlainPolicy}

-- some pattern contains the prefix
abbrev pub some_contains : List PlainPattern → PlainPrefix → Bool
some_contains patterns p = list_any (λ pattern. contains pattern p) patterns

-- the place, from k, of the first statement one of whose patterns contains the prefix
abbrev pub governing_from : List PlainStatement → PlainPrefix → ℕ → Option ℕ
governing_from [] p k = None
governing_from (s ∷ ss) p k = if some_contains s.patterns p then Some k else governing_from ss p (k + 1)

-- the number, from 1, of the statement that governs a prefix
abbrev pub governing : PlainPolicy → PlainPrefix → Option ℕ
governing policy p = governing_from policy.statements p 1

abbrev pub statement_from : List PlainStatement → PlainPrefix → Option PlainStatement
statement_from [] p = None
statement_from (s ∷ ss) p = if some_contains s.patterns p then Some s else statement_from ss p

-- the statement that governs a prefix
abbrev pub statement_of : PlainPolicy → PlainPrefix → Option PlainStatement
statement_of policy p = statement_from policy.statements p

-- where an `originate` item names the prefix, its routers
abbrev pub originated_at : List Origin → PlainPrefix → Option LocSet
originated_at [] p = None
originated_at (o ∷ os) p = if same_prefix o.prefix p then Some o.at else originated_at os p

-- the location is among these routers, or where there are none it is a peer
abbrev pub is_origin_by : PlainNet → Option LocSet → ℕ → Bool
is_origin_by net None l = is_peer net l
is_origin_by net (Some at) l = holds at l

-- the origins of a prefix: the routers of its `originate` item, or else all peers
abbrev pub is_origin : PlainNet → PlainPolicy → PlainPrefix → ℕ → Bool
is_origin net policy p l = is_origin_by net (originated_at policy.origins p) l
