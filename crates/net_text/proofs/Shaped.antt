-- The value of a network's text has the shape of a topology.
use Rattle.std.proofs.Common.{◌≡◌, ℕ, ◌+◌, ◌<◌, ◌≤◌, ◌^◌, List, [], ◌∷◌, map, Result, Ok, refl, arith}
use Rattle.std.specs.Prelude.{IsTrue, ◌≢◌}
use Rattle.std.specs.List.{AllByRecursion}
use Rattle.std.proofs.lemmas.Bool.{ne_eqb}
use Rattle.text_parts.proofs.PrefixTexts.{address_of-address_text}
use Rattle.json.proofs.Printed.Utf8.{IsUtf8-are_ascii}
use Rattle.json_values.specs.Plain.{IsPlain}
use Rattle.json_values.proofs.JsonLists.{list_of-items_of}
use Rattle.json_values.proofs.PlainItems.{plain_map}
use Rattle.serde_json.specs.Data.{items_depth, depth}
use Rattle.serde_json.specs.View.{items_of}
use Rattle.serde_json.proofs.OnLiterals.{serde_json_on_literals}
use Rattle.net_base.specs.NameRule.{is_name}
use Rattle.net_base.specs.Network.{PlainNet}
use Rattle.net_base.specs.Steps.{each_from}
use Rattle.net_base.specs.declared.net.Site.{Site}
use Rattle.topology.specs.declared.fault.TopoFault.{TopoFault}
use Rattle.topology.specs.Shape.{each, Entry, Ends, Topology, entry_of, ends_of, shape_of}
use Rattle.net_text.specs.NetText.{name_at, site_data, link_data, net_data}
use Rattle.net_text.proofs.Letters.{simple_name, simple_address, utf8_simple}

-- ---- what a text says of a network

abbrev pub site_entry : Site → Entry
site_entry s = record { name = s.name; asn = s.asn; id = s.id }

abbrev pub ends_at : PlainNet → ℕ × ℕ → Ends
ends_at net link = record { from = name_at net link.0; to = name_at net link.1 }

abbrev pub topology_of : PlainNet → Topology
topology_of net = record { routers = map site_entry net.routers; peers = map site_entry net.peers; links = map (ends_at net) net.links }

-- a site whose text is read again
pub record IsWritten (s : Site) : Type 0 where
  pub name : IsTrue (is_name s.name)
  pub asn : s.asn < 2 ^ 32
  pub id : (s.id ≢ 0) × (s.id < 2 ^ 32)

-- ---- the shape

-- what is read of items that are written
each_map : {A B C : Type 0} (P : A → Type 0) (f : B → Result C TopoFault) (g : A → B) (h : A → C) → ((x : A) → P x → f (g x) ≡ Ok (h x))
    → (k : ℕ) (xs : List A) → AllByRecursion P xs → each_from (λ _. f) k (map g xs) ≡ Ok (map h xs)
each_map P f g h one k [] all = refl
each_map P f g h one k (x ∷ xs) all = rw (one x all.0, each_map P f g h one (k + 1) xs all.1) refl

entry_again : (s : Site) → IsWritten s → entry_of (site_data s) ≡ Ok (site_entry s)
unfolding entry_of site_data serde_json_on_literals
entry_again s is = rw (address_of-address_text s.id is.id.1, ne_eqb s.id 0 is.id.0) refl

entries_again : (sites : List Site) → AllByRecursion IsWritten sites → each entry_of (map site_data sites) ≡ Ok (map site_entry sites)
unfolding each
entries_again sites are = each_map IsWritten entry_of site_data site_entry entry_again 1 sites are

link_again : (net : PlainNet) (link : ℕ × ℕ) → ends_of (link_data net link) ≡ Ok (ends_at net link)
unfolding ends_of
link_again net link = refl

links_again : (net : PlainNet) (links : List (ℕ × ℕ)) → each ends_of (map (link_data net) links) ≡ Ok (map (ends_at net) links)
unfolding each
links_again net links = by 1 links
  where
    by : (k : ℕ) (links : List (ℕ × ℕ)) → each_from (λ _. ends_of) k (map (link_data net) links) ≡ Ok (map (ends_at net) links)
    by k [] = refl
    by k (l ∷ ls) = rw (link_again net l, by (k + 1) ls) refl

pub shape_again : (net : PlainNet) → AllByRecursion IsWritten net.routers → AllByRecursion IsWritten net.peers → shape_of (net_data net) ≡ Ok (topology_of net)
unfolding shape_of net_data serde_json_on_literals
shape_again net routers peers =
    rw (
      list_of-items_of (map site_data net.routers),
      entries_again net.routers routers,
      list_of-items_of (map site_data net.peers),
      entries_again net.peers peers,
      list_of-items_of (map (link_data net) net.links),
      links_again net net.links,
    )
    refl

-- ---- the JSON value

plain_site : (s : Site) → IsWritten s → IsPlain (site_data s)
unfolding site_data serde_json_on_literals
plain_site s is = (
  IsUtf8-are_ascii _ refl,
  omega (arith, is.asn),
  (refl, (refl, tt)),
  (IsUtf8-are_ascii _ refl, utf8_simple _ (simple_address s.id is.id.1), (refl, tt), (IsUtf8-are_ascii _ refl, utf8_simple _ (simple_name s.name is.name), tt, tt)),
)

-- both ends of a link have names
abbrev pub HasEnds : PlainNet → ℕ × ℕ → Type 0
HasEnds net link = IsTrue (is_name (name_at net link.0)) × IsTrue (is_name (name_at net link.1))

plain_link : (net : PlainNet) (link : ℕ × ℕ) → HasEnds net link → IsPlain (link_data net link)
plain_link net link are = (utf8_simple _ (simple_name _ are.0), (utf8_simple _ (simple_name _ are.1), tt))

pub plain_net : (net : PlainNet) → AllByRecursion IsWritten net.routers → AllByRecursion IsWritten net.peers → AllByRecursion (HasEnds net) net.links → IsPlain (net_data net)
unfolding net_data serde_json_on_literals
plain_net net routers peers links = (
  IsUtf8-are_ascii _ refl,
  plain_map (HasEnds net) (link_data net) (plain_link net) net.links links,
  (refl, (refl, tt)),
  (
    IsUtf8-are_ascii _ refl,
    plain_map IsWritten site_data plain_site net.peers peers,
    (refl, tt),
    (IsUtf8-are_ascii _ refl, plain_map IsWritten site_data plain_site net.routers routers, tt, tt),
  ),
)

flat_sites : (sites : List Site) → items_depth (items_of (map site_data sites)) ≤ 1
unfolding site_data
flat_sites [] = omega arith
flat_sites (s ∷ ss) = omega (arith, flat_sites ss)

flat_links : (net : PlainNet) (links : List (ℕ × ℕ)) → items_depth (items_of (map (link_data net) links)) ≤ 1
flat_links net [] = omega arith
flat_links net (l ∷ ls) = omega (arith, flat_links net ls)

pub net_depth : (net : PlainNet) → depth (net_data net) ≤ 127
unfolding net_data
net_depth net = omega (arith, flat_links net net.links, flat_sites net.peers, flat_sites net.routers)
