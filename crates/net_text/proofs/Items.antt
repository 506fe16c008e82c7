-- Items that are written one after another.
use Rattle.std.proofs.Common.{◌≡◌, ℕ, List, ◌++◌, map, refl, sym, ap, ◌∙◌, append_assoc}
use Rattle.std.specs.Prelude.{codes, nat_lt}
use Rattle.std.specs.Fmt.{decimal}
use Rattle.json.specs.Print.{escape_byte}
use Rattle.json_values.specs.Json.{array_of}
use Rattle.net_base.specs.Network.{PlainNet}
use Rattle.net_base.specs.declared.net.Site.{Site}
use Rattle.text_parts.specs.Texts.{address_text}
use Rattle.net_text.specs.NetText.{link_data, net_data, net_text, site_data}
use Rattle.serde_json.specs.Data.{Data, string}
use Rattle.serde_json.specs.View.{items_of}
use Rattle.serde_json.specs.Written.{compact_text, items_text}

-- the items from a place on, with a comma before each but the first of all
abbrev pub rest_text : ℕ → List Data → List ℕ
rest_text i ds = items_text (nat_lt 0 i) (items_of ds)

-- ---- the pieces of a site, of a link and of a network

pub site_as : (s : Site)
    → codes "{\"asn\":"
    ++ (decimal s.asn
    ++ (codes ",\"id\":"
    ++ (compact_text (string (address_text s.id)) ++ (codes ",\"name\":" ++ (compact_text (string s.name) ++ codes "}")))))
    ≡ compact_text (site_data s)
unfolding site_data escape_byte
site_as s = refl

pub net_as : (net : PlainNet)
    → codes "{\"links\":"
    ++ (compact_text (array_of (map (link_data net) net.links))
    ++ (codes ",\"peers\":"
    ++ (compact_text (array_of (map site_data net.peers))
    ++ (codes ",\"routers\":" ++ (compact_text (array_of (map site_data net.routers)) ++ codes "}\n"))))) ≡ net_text net
unfolding net_data escape_byte
net_as net =
    let links = compact_text (array_of (map (link_data net) net.links)) in
    let peers = compact_text (array_of (map site_data net.peers)) in
    let routers = compact_text (array_of (map site_data net.routers)) in
    sym (ap (λ t. codes "{\"links\":" ++ t) (append_assoc links (codes ",\"peers\":" ++ (peers ++ (codes ",\"routers\":" ++ (routers ++ codes "}")))) (codes "\n")
    ∙ ap (λ t. links ++ (codes ",\"peers\":" ++ t)) (append_assoc peers (codes ",\"routers\":" ++ (routers ++ codes "}")) (codes "\n")
    ∙ ap (λ t. peers ++ (codes ",\"routers\":" ++ t)) (append_assoc routers (codes "}") (codes "\n")))))
