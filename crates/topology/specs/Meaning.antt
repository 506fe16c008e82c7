-- What a topology text means: a network, and nothing of what is told of other texts.
use Rattle.std.specs.Prelude.{◌≡◌, ◌⊎◌, ℕ, List, [], ◌∷◌, Some, codes, IsTrue, IsUtf8, ⊤}
use Rattle.serde_json.specs.Data.{Data, Items, no_items, item, Members, unsigned, number, string, array, object}
use Rattle.serde_json.specs.Events.{members_len}
use Rattle.serde_json.specs.Find.{get}
use Rattle.serde_json.specs.Read.{read}
use Rattle.net_base.specs.declared.net.Site.{Site}
use Rattle.net_base.specs.Addresses.{address_of}
use Rattle.net_base.specs.NameRule.{is_name}
use Rattle.net_base.specs.Network.{PlainNet, IsNet, site_of}
use Rattle.topology.specs.Rules.{ascending}

-- the value is an object with so many keys
abbrev pub HasKeys : ℕ → Data → Type 0
HasKeys n d = (ms : Members) × (d ≡ object ms) × (members_len ms ≡ n)

-- the items of an array say these, one for one
abbrev pub EachSays : {A : Type 0} → (Data → A → Type 0) → Items → List A → Type 0
EachSays Says no_items [] = ⊤
EachSays Says (item d ds) (x ∷ xs) = Says d x × EachSays Says ds xs
EachSays Says no_items (x ∷ xs) = ⊥
EachSays Says (item d ds) [] = ⊥

-- an object has an array under this key, whose items say these
abbrev pub HasArray : {A : Type 0} → List ℕ → Data → (Data → A → Type 0) → List A → Type 0
HasArray key d Says xs = (ds : Items) × (get key d ≡ Some (array ds)) × EachSays Says ds xs

-- An object with exactly the keys `name`, `asn` and `id`: a router's or a peer's name, its AS number, and its identifier as an address.
pub record SaysSite (d : Data) (site : Site) : Type 0 where
  pub keys : HasKeys 3 d
  pub name : get (codes "name") d ≡ Some (string site.name)
  pub asn : get (codes "asn") d ≡ Some (number (unsigned site.asn))
  pub address : List ℕ
  pub id : get (codes "id") d ≡ Some (string address)
  pub spelled : address_of address ≡ Some site.id
  pub lawful : IsTrue (is_name site.name)

-- an array of exactly two names: those of these locations
abbrev pub SaysEnds : PlainNet → Data → ℕ → ℕ → Type 0
SaysEnds net d a b = (from to : Site) × (d ≡ array (item (string from.name) (item (string to.name) no_items))) × (site_of net a ≡ Some from) × (site_of net b ≡ Some to)

-- the two ends of a link, in either order
abbrev pub SaysLink : PlainNet → Data → ℕ × ℕ → Type 0
SaysLink net d link = SaysEnds net d link.0 link.1 ⊎ SaysEnds net d link.1 link.0

-- The bytes are a JSON text that means this network: an object with exactly the keys `routers`, `peers` and `links`. The routers and the
-- peers stand there in their order, and the links in any: those of the network are the same in ascending order.
pub record IsTopologyOf (bytes : List ℕ) (net : PlainNet) : Type 0 where
  pub utf8 : IsUtf8 bytes
  pub value : Data
  pub json : read bytes ≡ Some value
  pub keys : HasKeys 3 value
  pub routers : HasArray (codes "routers") value SaysSite net.routers
  pub peers : HasArray (codes "peers") value SaysSite net.peers
  pub links : List (ℕ × ℕ)
  pub said : HasArray (codes "links") value (SaysLink net) links
  pub ascend : ascending links ≡ net.links
  pub lawful : IsNet net
