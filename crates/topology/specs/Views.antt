-- What borrowed parts of a text say, and what is made of them.
use Rattle.std.specs.Prelude.{◌≡◌, ℕ, ◌++◌, List, Ok, map}
use Rattle.std.proofs.Common.{Bor}
use Rattle.net_base.specs.Network.{PlainNet}
use Rattle.topology.specs.declared.shape.RawEntry.{RawEntry}
use Rattle.topology.specs.declared.shape.RawEnds.{RawEnds}
use Rattle.topology.specs.declared.shape.RawTopology.{RawTopology}
use Rattle.topology.specs.declared.rules.NetParts.{NetParts}
use Rattle.topology.specs.declared.sites.Named.{Named}
use Rattle.topology.specs.declared.parts.Kind.TheVariants as kind
use Rattle.topology.specs.declared.rules.Sites.{Sites}
use Rattle.topology.specs.declared.sites.Number.TheVariants as which
use Rattle.topology.specs.Rules.{numbers_differ, site_of}
use Rattle.topology.specs.Shape.{each, Entry, Ends, Topology}

abbrev pub raw_entry : RawEntry → Entry
raw_entry r = record { name = r.name.now; asn = r.asn; id = r.id }

abbrev pub raw_ends : RawEnds → Ends
raw_ends r = record { from = r.from.now; to = r.to.now }

abbrev pub raw_topology : RawTopology → Topology
raw_topology r = record { routers = map raw_entry r.routers.items; peers = map raw_entry r.peers.items; links = map raw_ends r.links.items }

abbrev pub named_entry : Named → Entry
named_entry n = record { name = n.name; asn = n.asn; id = n.id }

abbrev pub net_parts : NetParts → PlainNet
net_parts p = record { routers = p.routers; peers = p.peers; links = p.links }

-- what borrowed texts say
abbrev pub texts : List (Bor (List ℕ)) → List (List ℕ)
texts ks = map (λ k. k.now) ks

-- these are the routers and peers of entries, no two of which share a number
abbrev pub AreLawful : List Entry → List Entry → Sites → Type 0
AreLawful routers peers sites =
    (each (site_of kind.Routers) routers ≡ Ok sites.routers.items)
    × (each (site_of kind.Peers) peers ≡ Ok sites.peers.items)
    × (numbers_differ which.As (routers ++ peers) ≡ Ok tt)
    × (numbers_differ which.Id (routers ++ peers) ≡ Ok tt)
