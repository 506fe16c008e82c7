-- The rules of a topology, each for itself, by the number of its fault.
use Rattle.std.specs.Prelude.{◌≡◌, ℕ, ◌≤◌, ◌||◌, ◌&&◌, Bool, false, IsTrue, nat_eq, List, [], ◌∷◌, ◌++◌, length, map}
use Rattle.std.specs.List.{list_any, AllByRecursion, IsDistinct}
use Rattle.std.specs.Str.{bytes_eq}
use Rattle.net_base.specs.declared.limits.TheConstants.{ROUTERS, PEERS, LINKS}
use Rattle.net_base.specs.NameRule.{is_name}
use Rattle.net_base.specs.Numbers.{is_router_as, is_peer_as}
use Rattle.topology.specs.Rules.{names_of}
use Rattle.topology.specs.Shape.{Entry, Ends, Topology}

abbrev pub entries : Topology → List Entry
entries t = t.routers ++ t.peers

-- the text is a name of one of the entries
abbrev pub is_among : List Entry → List ℕ → Bool
is_among es name = list_any (bytes_eq name) (names_of es)

-- two links have the same ends, in one order or the other
abbrev pub same_link : Ends → Ends → Bool
same_link a b = (bytes_eq a.from b.from && bytes_eq a.to b.to) || (bytes_eq a.from b.to && bytes_eq a.to b.from)

-- ---- what each rule says

abbrev pub FewEnough : Topology → Type 0
FewEnough t = (length t.routers ≤ ROUTERS) × (length t.peers ≤ PEERS) × (length t.links ≤ LINKS)

abbrev pub HaveNames : Topology → Type 0
HaveNames t = AllByRecursion (λ e. IsTrue (is_name e.name)) (entries t)

abbrev pub NamesDiffer : Topology → Type 0
NamesDiffer t = IsDistinct bytes_eq (names_of (entries t))

abbrev pub AreInRange : Topology → Type 0
AreInRange t = AllByRecursion (λ e. IsTrue (is_router_as e.asn)) t.routers × AllByRecursion (λ e. IsTrue (is_peer_as e.asn)) t.peers

abbrev pub AsnsDiffer : Topology → Type 0
AsnsDiffer t = IsDistinct nat_eq (map (λ (e : Entry). e.asn) (entries t))

abbrev pub IdsDiffer : Topology → Type 0
IdsDiffer t = IsDistinct nat_eq (map (λ (e : Entry). e.id) (entries t))

abbrev pub EndsAreKnown : Topology → Type 0
EndsAreKnown t = AllByRecursion (λ l. IsTrue (is_among (entries t) l.from && is_among (entries t) l.to)) t.links

abbrev pub LinksDiffer : Topology → Type 0
LinksDiffer t = IsDistinct same_link t.links

abbrev pub EndsDiffer : Topology → Type 0
EndsDiffer t = AllByRecursion (λ l. bytes_eq l.from l.to ≡ false) t.links

abbrev pub HaveRouters : Topology → Type 0
HaveRouters t = AllByRecursion (λ l. IsTrue (is_among t.routers l.from || is_among t.routers l.to)) t.links

-- the rules in order, of which the first has the number 3
abbrev pub rules : Topology → List {1} (Type 0)
rules t = FewEnough t ∷ HaveNames t ∷ NamesDiffer t ∷ AreInRange t ∷ AsnsDiffer t ∷ IdsDiffer t ∷ EndsAreKnown t ∷ LinksDiffer t ∷ EndsDiffer t ∷ HaveRouters t ∷ []
