-- The names that stand for locations.
use Rattle.std.specs.Prelude.{ℕ, ◌+◌, Bool, List, [], ◌∷◌, ◌++◌, length, slice_get, Option, Some, None, option_and_then, if◌then◌else◌}
use Rattle.std.specs.List.{list_any, position}
use Rattle.std.specs.Str.{bytes_eq}
use Rattle.net_base.specs.declared.loc.LocSet.{LocSet}
use Rattle.net_base.specs.declared.net.Site.{Site}
use Rattle.net_base.specs.declared.place.Place.{Place}
use Rattle.net_base.specs.Network.{PlainNet}
use Rattle.net_base.specs.SetOperations.{no_location, with_location}

-- names with the set that each stands for, and where the first name stands that was defined again
pub record Names : Type 0 where
  pub names : List (List ℕ)
  pub sets : List LocSet
  pub twice : Option Place

-- the set that a name stands for
abbrev pub set_named : Names → List ℕ → Option LocSet
set_named known name = option_and_then (slice_get known.sets) (position (bytes_eq name) known.names)

abbrev pub is_known : Names → List ℕ → Bool
is_known known name = list_any (bytes_eq name) known.names

-- one name more
abbrev pub with_name : Names → List ℕ → LocSet → Names
with_name known name s = record { names = known.names ++ name ∷ []; sets = known.sets ++ s ∷ []; twice = known.twice }

-- one name more, unless it is there
abbrev pub with_new_name : Names → List ℕ → LocSet → Names
with_new_name known name s = if is_known known name then known else with_name known name s

-- the names of locations from one on
abbrev pub with_sites : ℕ → List Site → Names → Names
with_sites l [] known = known
with_sites l (s ∷ ss) known = with_sites (l + 1) ss (with_new_name known s.name (with_location no_location l))

-- the names of a network's routers and peers
abbrev pub net_names : PlainNet → Names
net_names net = with_sites (length net.routers) net.peers (with_sites 0 net.routers (record { names = []; sets = []; twice = None }))

-- where a name stands that is defined again, the first time
abbrev pub first_place : Option Place → Place → Option Place
first_place (Some p) q = Some p
first_place None q = Some q

-- the name of a group that is defined at this place
abbrev pub with_group : Names → Place → List ℕ → LocSet → Names
with_group known place name s = if is_known known name then record { names = known.names; sets = known.sets; twice = first_place known.twice place } else with_name known name s
