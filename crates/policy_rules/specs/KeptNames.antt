-- What is kept of names that stand for locations.
use Rattle.std.specs.Prelude.{ℕ, ◌+◌, nat_lt, Bool, true, false, List, [], ◌∷◌, ◌++◌, length, map, if◌then◌else◌}
use Rattle.std.proofs.Common.{Bor}
use Rattle.policy_tokens.specs.declared.limits.TheConstants.{DEFINITIONS}
use Rattle.net_base.specs.declared.limits.TheConstants.{LOCATIONS}
use Rattle.net_base.specs.declared.loc.LocSet.{LocSet}
use Rattle.net_base.specs.declared.place.Place.{Place}
use Rattle.net_base.specs.Network.{PlainNet}
use Rattle.net_base.specs.SetOperations.{no_location, with_location}
use Rattle.policy_rules.specs.KnownNames.{Names, with_group}
use Rattle.policy_rules.specs.Origins.{has_peer}

-- what borrowed names say
abbrev pub texts : List (Bor (List ℕ)) → List (List ℕ)
texts ks = map (λ k. k.now) ks

-- a set with a peer, which is the network's first one, or one with none
abbrev pub stand_in : PlainNet → Bool → LocSet
stand_in net true = with_location no_location (length net.routers)
stand_in net false = no_location

-- What is kept of the set of one name more: the set itself, as long as there are no more names than a network and a
-- policy may have, and then only whether it has a peer.
abbrev pub kept_set : PlainNet → Names → LocSet → LocSet
kept_set net known s = if nat_lt (length known.sets) (LOCATIONS + DEFINITIONS) then s else stand_in net (has_peer net s)

-- one set more
abbrev pub with_set : Names → LocSet → Names
with_set known s = record { names = known.names; sets = known.sets ++ s ∷ []; twice = known.twice }

-- the name of a group that is defined at this place
abbrev pub with_kept_group : PlainNet → Names → Place → List ℕ → LocSet → Names
with_kept_group net known place name s = with_group known place name (kept_set net known s)
