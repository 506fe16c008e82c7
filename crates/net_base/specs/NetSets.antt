-- The locations of a network as sets.
use Rattle.net_base.specs.declared.loc.LocSet.{LocSet}
use Rattle.net_base.specs.Network.{PlainNet, is_location, is_peer}
use Rattle.net_base.specs.Sets.{set_of}

-- the set of all locations
abbrev pub locations : PlainNet → LocSet
locations net = set_of (is_location net)

-- the set of the peers
abbrev pub peers : PlainNet → LocSet
peers net = set_of (is_peer net)
