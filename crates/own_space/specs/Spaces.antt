-- A network's own space: the prefixes that it originates, and all that is inside them.
use Rattle.std.specs.Prelude.{Bool, ◌&&◌, not, List, map, filter, nat_lt, Option, Some, None, if◌then◌else◌}
use Rattle.std.specs.List.{list_any}
use Rattle.net_base.specs.Prefixes.{PlainPrefix, PlainPattern, contains, only}
use Rattle.policy_base.specs.declared.policy.Origin.{Origin}
use Rattle.policy_base.specs.Policies.{PlainPolicy}

-- all that is inside a prefix
abbrev pub all_in : PlainPrefix → PlainPattern
all_in p = record { base = p; upto = 32 }

-- inside a prefix that holds space of its own. The default route holds none: who originates it doesn't own all addresses.
abbrev pub holds_own : PlainPrefix → PlainPrefix → Bool
holds_own q p = nat_lt 0 q.len && contains (all_in q) p

-- the prefix is inside an originated one
abbrev pub is_own : PlainPolicy → PlainPrefix → Bool
is_own policy p = list_any (λ (o : Origin). holds_own o.prefix p) policy.origins

-- each originated prefix alone
abbrev pub originated : PlainPolicy → List PlainPattern
originated policy = map (λ (o : Origin). only o.prefix) policy.origins

-- inside a shorter one
abbrev pub is_around : PlainPrefix → PlainPrefix → Bool
is_around q p = holds_own q p && nat_lt q.len p.len

-- inside a shorter one of these
abbrev pub is_within : List Origin → Origin → Bool
is_within os o = list_any (λ (q : Origin). is_around q.prefix o.prefix) os

abbrev pub is_outer : List Origin → Origin → Bool
is_outer os o = nat_lt 0 o.prefix.len && not (is_within os o)

-- the originated prefixes that hold space and are inside no shorter one, in order of the text
abbrev pub outer_of : List Origin → List Origin
outer_of os = filter (is_outer os) os

-- the prefixes of a pattern that are inside a prefix, as one pattern, where there are any
abbrev pub part_in : PlainPrefix → PlainPattern → Option PlainPattern
part_in p t = if contains (all_in p) t.base then Some t else (if contains t p then Some (record { base = p; upto = t.upto }) else None)
