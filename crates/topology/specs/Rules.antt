-- The rules of a topology.
use Rattle.std.specs.Prelude.{ℕ, ◌+◌, ◌==◌, fold, nat_le, length, map, option_map, List, [], ◌∷◌, ◌++◌, Option, Some, None, Result, Ok, Err, ⊤, Bool, if◌then◌else◌}
use Rattle.std.specs.List.{find, position}
use Rattle.std.specs.Str.{bytes_eq}
use Rattle.net_base.specs.declared.limits.TheConstants.{ROUTERS, PEERS, LINKS}
use Rattle.net_base.specs.NameRule.{is_name}
use Rattle.net_base.specs.Network.{PlainNet, ordered, is_before, same_ends}
use Rattle.net_base.specs.Numbers.{is_router_as, is_peer_as}
use Rattle.net_base.specs.Steps.{◌>>=◌, or_fault, unless, each_from}
use Rattle.net_base.specs.declared.net.Site.{Site}
use Rattle.topology.specs.declared.parts.Kind.{Kind}
use Rattle.topology.specs.declared.parts.Kind.TheVariants as kind
use Rattle.topology.specs.declared.fault.TopoFault.{TopoFault}
use Rattle.topology.specs.declared.fault.TopoFault.TheVariants.{TooMany, BadName, Twice, AsRange, AsTwice, IdTwice, UnknownEnd, LinkTwice, SelfLink, PeerLink}
use Rattle.topology.specs.declared.sites.Number.{Number}
use Rattle.topology.specs.declared.sites.Number.TheVariants as which
use Rattle.topology.specs.Shape.{each, Entry, Ends, Topology}

-- this fault, where there is one
abbrev pub no_fault : Option TopoFault → Result ⊤ TopoFault
no_fault None = Ok tt
no_fault (Some e) = Err e

-- None of these is like one before it. The first that is one is told, with its place and the first that it is like.
abbrev pub all_unlike : {A : Type 0} → (A → A → Bool) → (ℕ → A → A → TopoFault) → List A → List A → Result ⊤ TopoFault
all_unlike like told before [] = Ok tt
all_unlike like told before (x ∷ xs) = do
  _ ← no_fault (option_map (λ earlier. told (length before + 1) earlier x) (find (like x) before))
  all_unlike like told (before ++ x ∷ []) xs

-- the entry at a place has a name
unfoldable pub named : Kind → ℕ → Entry → Result Entry TopoFault
named k place entry = do
  _ ← unless (BadName k place) (is_name entry.name)
  Ok entry

-- the AS numbers that are lawful for routers, and else those for peers
abbrev pub is_lawful_as : Kind → ℕ → Bool
is_lawful_as kind.Routers asn = is_router_as asn
is_lawful_as _ asn = is_peer_as asn

-- the router or peer of an entry, whose AS number is in its range
unfoldable pub site_of : Kind → Entry → Result Site TopoFault
site_of k entry = do
  _ ← unless (AsRange entry.name) (is_lawful_as k entry.asn)
  Ok (record { name = entry.name; asn = entry.asn; id = entry.id })

-- the link of two ends, both of which are names
unfoldable pub joined : List (List ℕ) → ℕ → Ends → Result (ℕ × ℕ) TopoFault
joined names place ends = do
  a ← or_fault (UnknownEnd place) (position (bytes_eq ends.from) names)
  b ← or_fault (UnknownEnd place) (position (bytes_eq ends.to) names)
  Ok (ordered a b)

-- ascending links, with one more in its place
abbrev pub put : List (ℕ × ℕ) → ℕ × ℕ → List (ℕ × ℕ)
put [] link = link ∷ []
put (x ∷ xs) link = if is_before link x then link ∷ x ∷ xs else x ∷ put xs link

-- the links in ascending order
abbrev pub ascending : List (ℕ × ℕ) → List (ℕ × ℕ)
ascending links = fold put [] links

-- no two links have the same ends
unfoldable pub links_differ : List (ℕ × ℕ) → Result ⊤ TopoFault
links_differ links = all_unlike same_ends (λ place _ _. LinkTwice place) [] links

-- the ends of each link differ
unfoldable pub ends_differ : List (ℕ × ℕ) → Result ⊤ TopoFault
ends_differ links = no_fault (option_map (λ i. SelfLink (i + 1)) (position (λ l. l.0 == l.1) links))

-- an end of each link is a router: the lesser end, since the routers are the first locations
unfoldable pub routers_linked : ℕ → List (ℕ × ℕ) → Result ⊤ TopoFault
routers_linked routers links = no_fault (option_map (λ i. PeerLink (i + 1)) (position (λ l. nat_le routers l.0) links))

-- the links in ascending order, or the least rule that one breaks; so many of the names are those of routers
unfoldable pub links_of : List (List ℕ) → ℕ → List Ends → Result (List (ℕ × ℕ)) TopoFault
links_of names routers ends = do
  links ← each_from (joined names) 1 ends
  _ ← links_differ links
  _ ← ends_differ links
  _ ← routers_linked routers links
  Ok (ascending links)

-- at most so many routers, peers and links
unfoldable pub counted : Topology → Result ⊤ TopoFault
counted t = do
  _ ← unless (TooMany kind.Routers (length t.routers)) (nat_le (length t.routers) ROUTERS)
  _ ← unless (TooMany kind.Peers (length t.peers)) (nat_le (length t.peers) PEERS)
  unless (TooMany kind.Links (length t.links)) (nat_le (length t.links) LINKS)

abbrev pub same_name : Entry → Entry → Bool
same_name a b = bytes_eq a.name b.name

-- no two entries have the same name
unfoldable pub names_differ : List Entry → Result ⊤ TopoFault
names_differ entries = all_unlike same_name (λ _ _ later. Twice later.name) [] entries

-- one of the two numbers of an entry
abbrev pub number : Number → Entry → ℕ
number which.As entry = entry.asn
number which.Id entry = entry.id

abbrev pub same_number : Number → Entry → Entry → Bool
same_number n a b = number n a == number n b

-- two entries with the same number, the earlier first
abbrev pub shared : Number → Entry → Entry → TopoFault
shared which.As a b = AsTwice a.name b.name
shared which.Id a b = IdTwice a.name b.name

-- no two entries have the same number
unfoldable pub numbers_differ : Number → List Entry → Result ⊤ TopoFault
numbers_differ n entries = all_unlike (same_number n) (λ _. shared n) [] entries

abbrev pub names_of : List Entry → List (List ℕ)
names_of entries = map (λ (e : Entry). e.name) entries

-- the network of routers and peers with names, and of links between them, or the least rule that is broken
unfoldable pub network_of : List Entry → List Entry → List Ends → Result PlainNet TopoFault
network_of routers peers links = do
  _ ← names_differ (routers ++ peers)
  router_sites ← each (site_of kind.Routers) routers
  peer_sites ← each (site_of kind.Peers) peers
  _ ← numbers_differ which.As (routers ++ peers)
  _ ← numbers_differ which.Id (routers ++ peers)
  links ← links_of (names_of (routers ++ peers)) (length routers) links
  Ok (record { routers = router_sites; peers = peer_sites; links = links })

-- the network of a topology, or the least rule that is broken
unfoldable pub judged : Topology → Result PlainNet TopoFault
judged t = do
  _ ← counted t
  routers ← each_from (named kind.Routers) 1 t.routers
  peers ← each_from (named kind.Peers) 1 t.peers
  network_of routers peers t.links
