-- A network: its locations, names, numbers and links.
use Rattle.std.specs.Prelude.{◌≡◌, ◌≢◌, ℕ, ◌+◌, ◌<◌, ◌≤◌, ◌^◌, Bool, false, ◌&&◌, ◌||◌, ◌==◌, IsTrue, nat_lt, nat_le, nat_eq, List, [], ◌∷◌, ◌++◌, length, map, Option, slice_get, if◌then◌else◌}
use Rattle.std.specs.List.{list_any, AllByRecursion, IsDistinct}
use Rattle.std.specs.Option.{option_map_or}
use Rattle.std.specs.Str.{bytes_eq}
use Rattle.net_base.specs.declared.limits.TheConstants.{ROUTERS, PEERS, LINKS}
use Rattle.net_base.specs.declared.net.Site.{Site}
use Rattle.net_base.specs.Numbers.{is_router_as, is_peer_as}

pub record PlainNet : Type 0 where
  pub routers : List Site
  pub peers : List Site
  pub links : List (ℕ × ℕ)

-- Locations are numbers: the routers in order from 0, then the peers.
abbrev pub sites : PlainNet → List Site
sites net = net.routers ++ net.peers

abbrev pub is_router : PlainNet → ℕ → Bool
is_router net l = nat_lt l (length net.routers)

abbrev pub is_location : PlainNet → ℕ → Bool
is_location net l = nat_lt l (length net.routers + length net.peers)

abbrev pub is_peer : PlainNet → ℕ → Bool
is_peer net l = nat_le (length net.routers) l && is_location net l

-- a link joins two locations, in either order
abbrev pub joins : ℕ → ℕ → ℕ × ℕ → Bool
joins a b link = (link.0 == a && link.1 == b) || (link.0 == b && link.1 == a)

-- the lesser of two locations first
abbrev pub ordered : ℕ → ℕ → ℕ × ℕ
ordered a b = if nat_lt a b then (a, b) else (b, a)

abbrev pub same_ends : ℕ × ℕ → ℕ × ℕ → Bool
same_ends a b = a.0 == b.0 && a.1 == b.1

-- a link stands before another where its first end is lesser, or the first ends are the same and its second is lesser
abbrev pub is_before : ℕ × ℕ → ℕ × ℕ → Bool
is_before a b = nat_lt a.0 b.0 || (a.0 == b.0 && nat_lt a.1 b.1)

abbrev pub linked : PlainNet → ℕ → ℕ → Bool
linked net a b = list_any (joins a b) net.links

-- the router or peer at a location
abbrev pub site_of : PlainNet → ℕ → Option Site
site_of net l = slice_get (sites net) l

-- a location by its name
abbrev pub is_named : PlainNet → List ℕ → ℕ → Bool
is_named net name l = option_map_or (λ (site : Site). bytes_eq site.name name) (site_of net l) false

-- the name of a location, or nothing for a number that is none
abbrev pub name_of : PlainNet → ℕ → List ℕ
name_of net l = option_map_or (λ (s : Site). s.name) (site_of net l) []

-- the AS number of a location, 0 where the net has no such location
abbrev pub asn_of : PlainNet → ℕ → ℕ
asn_of net l = option_map_or (λ (site : Site). site.asn) (site_of net l) 0

-- the BGP identifier of a location, 0 where the net has no such location
abbrev pub id_of : PlainNet → ℕ → ℕ
id_of net l = option_map_or (λ (site : Site). site.id) (site_of net l) 0

-- the lesser end first, which is a router
abbrev pub IsLink : PlainNet → ℕ × ℕ → Type 0
IsLink net link = (link.0 < link.1) × (link.1 < length net.routers + length net.peers) × (link.0 < length net.routers)

-- a link stands before another: its first end is lesser, or the first ends are the same and its second end is lesser
abbrev pub IsBefore : ℕ × ℕ → ℕ × ℕ → Type 0
IsBefore a b = (a.0 ≤ b.0) × (a.0 ≡ b.0 → a.1 < b.1)

abbrev pub Ascend : List (ℕ × ℕ) → Type 0
Ascend [] = Unit {0}
Ascend (a ∷ links) = AllByRecursion (IsBefore a) links × Ascend links

-- What every network keeps: the limits; names, AS numbers and identifiers that differ over routers and peers
-- together; AS numbers in their ranges; identifiers that aren't 0; links of different locations, one of them a
-- router, in ascending order, none twice.
pub record IsNet (net : PlainNet) : Type 0 where
  pub routers : length net.routers ≤ ROUTERS
  pub peers : length net.peers ≤ PEERS
  pub count : length net.links ≤ LINKS
  pub names : IsDistinct bytes_eq (map (λ (s : Site). s.name) (sites net))
  pub router_asns : AllByRecursion (λ (s : Site). IsTrue (is_router_as s.asn)) net.routers
  pub peer_asns : AllByRecursion (λ (s : Site). IsTrue (is_peer_as s.asn)) net.peers
  pub asns : IsDistinct nat_eq (map (λ (s : Site). s.asn) (sites net))
  pub ids : IsDistinct nat_eq (map (λ (s : Site). s.id) (sites net))
  pub id_ranges : AllByRecursion (λ (s : Site). (s.id ≢ 0) × (s.id < 2 ^ 32)) (sites net)
  pub links : AllByRecursion (IsLink net) net.links
  pub order : Ascend net.links
