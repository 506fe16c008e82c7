-- The text of a network.
use Rattle.std.specs.Prelude.{ℕ, List, [], ◌∷◌, ◌++◌, codes, map, IsTrue}
use Rattle.std.specs.List.{AllByRecursion}
use Rattle.std.specs.Option.{option_map_or}
use Rattle.serde_json.specs.Data.{Data, unsigned, number, string, object, no_members, member}
use Rattle.serde_json.specs.Written.{compact_text}
use Rattle.json_values.specs.Json.{array_of, texts_data}
use Rattle.net_base.specs.NameRule.{is_name}
use Rattle.net_base.specs.Network.{PlainNet, site_of}
use Rattle.net_base.specs.declared.net.Site.{Site}
use Rattle.text_parts.specs.Texts.{address_text}

-- each of them has a name by the rule of names
abbrev pub HaveNames : List Site → Type 0
HaveNames sites = AllByRecursion (λ (s : Site). IsTrue (is_name s.name)) sites

-- a router or a peer, with its keys in order
unfoldable pub site_data : Site → Data
site_data s = object (member (codes "asn") (number (unsigned s.asn)) (member (codes "id") (string (address_text s.id)) (member (codes "name") (string s.name) no_members)))

-- the name of a location
abbrev pub name_at : PlainNet → ℕ → List ℕ
name_at net l = option_map_or (λ (s : Site). s.name) (site_of net l) []

-- a link, by the names of its ends
abbrev pub link_data : PlainNet → ℕ × ℕ → Data
link_data net link = texts_data (name_at net link.0 ∷ name_at net link.1 ∷ [])

unfoldable pub net_data : PlainNet → Data
net_data net =
    object
    (member (codes "links") (array_of (map (link_data net) net.links))
    (member (codes "peers") (array_of (map site_data net.peers))
    (member (codes "routers") (array_of (map site_data net.routers))
    no_members)))

-- one JSON object without spaces, and a line feed
abbrev pub net_text : PlainNet → List ℕ
net_text net = compact_text (net_data net) ++ codes "\n"
