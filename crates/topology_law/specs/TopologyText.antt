-- What a topology text means: a network, by the grammar of JSON.
use Rattle.std.specs.Prelude.{◌≡◌, ◌⊎◌, ℕ, List, [], ◌∷◌, Some, codes, IsTrue, IsUtf8}
use Rattle.std.specs.Fmt.{decimal}
use Rattle.std.specs.List.{AllByRecursion}
use Rattle.list_law.specs.Members.{IsIn}
use Rattle.json_law.specs.Grammar.{IsPadded, IsString, IsArray, IsObject, Says}
use Rattle.net_base.specs.declared.net.Site.{Site}
use Rattle.net_base.specs.NameRule.{is_name}
use Rattle.net_base.specs.Network.{PlainNet, IsNet, site_of}
use Rattle.text_parts.specs.Texts.{address_text}
use Rattle.topology.specs.Rules.{ascending}

-- an object with exactly these keys
abbrev pub HasKeys : List (List ℕ) → List (List ℕ × List ℕ) → List ℕ → Type 0
HasKeys keys members text = IsObject members text × AllByRecursion (λ m. IsIn keys m.0) members

-- what stands under a key is so
abbrev pub Has : List (List ℕ × List ℕ) → List ℕ → (List ℕ → Type 0) → Type 0
Has members key Is = (value : List ℕ) × Says members key value × Is value

-- an array whose items say these, one for one
abbrev pub EachSays : {A : Type 0} → (A → List ℕ → Type 0) → List A → List (List ℕ) → Type 0
EachSays Means [] [] = Unit {0}
EachSays Means (x ∷ xs) (v ∷ vs) = Means x v × EachSays Means xs vs
EachSays Means _ _ = ⊥

abbrev pub IsArrayOf : {A : Type 0} → (A → List ℕ → Type 0) → List A → List ℕ → Type 0
IsArrayOf Means xs text = (vs : List (List ℕ)) × IsArray vs text × EachSays Means xs vs

-- An object with exactly the keys `name`, `asn` and `id`: a router's or a peer's name, its AS number, and its identifier as an address.
pub record MeansSite (site : Site) (text : List ℕ) : Type 0 where
  pub members : List (List ℕ × List ℕ)
  pub keys : HasKeys (codes "name" ∷ codes "asn" ∷ codes "id" ∷ []) members text
  pub name : Has members (codes "name") (IsString site.name)
  pub asn : Says members (codes "asn") (decimal site.asn)
  pub id : Has members (codes "id") (IsString (address_text site.id))
  pub lawful : IsTrue (is_name site.name)

-- an array of exactly two names: those of these locations
abbrev pub MeansEnds : PlainNet → ℕ → ℕ → List ℕ → Type 0
MeansEnds net a b text = (from to : Site) × (site_of net a ≡ Some from) × (site_of net b ≡ Some to) × IsArrayOf IsString (from.name ∷ to.name ∷ []) text

-- the two ends of a link, in either order
abbrev pub MeansLink : PlainNet → ℕ × ℕ → List ℕ → Type 0
MeansLink net link text = MeansEnds net link.0 link.1 text ⊎ MeansEnds net link.1 link.0 text

-- The bytes are a JSON text that means this network: an object with exactly the keys `routers`, `peers` and `links`. The routers and the
-- peers stand there in their order, and the links in any: those of the network are the same in ascending order.
pub record MeansNet (bytes : List ℕ) (net : PlainNet) : Type 0 where
  pub utf8 : IsUtf8 bytes
  pub text : List ℕ
  pub padded : IsPadded text bytes
  pub members : List (List ℕ × List ℕ)
  pub keys : HasKeys (codes "routers" ∷ codes "peers" ∷ codes "links" ∷ []) members text
  pub routers : Has members (codes "routers") (IsArrayOf MeansSite net.routers)
  pub peers : Has members (codes "peers") (IsArrayOf MeansSite net.peers)
  pub links : List (ℕ × ℕ)
  pub said : Has members (codes "links") (IsArrayOf (MeansLink net) links)
  pub ascend : ascending links ≡ net.links
  pub lawful : IsNet net
