-- The editions of configuration texts: what the first line says, how each writes a tag, and which ranges its numbers have.
use Rattle.std.specs.Prelude.{ℕ, Bool, ◌&&◌, nat_le, List, ◌++◌, codes}
use Rattle.std.specs.Fmt.{decimal}
use Rattle.net_base.specs.Numbers.{is_router_as, is_peer_as, is_tag}
use Rattle.net_base.specs.declared.numbers.Tag.{Tag}
use Rattle.config_lines.specs.declared.edition.Edition.{Edition}
use Rattle.config_lines.specs.declared.edition.Edition.TheVariants.{First, Second}

-- without its line feed
abbrev pub first_line : Edition → List ℕ
first_line First = codes "propane-config 1"
first_line Second = codes "propane-config 2"

-- a router's AS number
abbrev pub fits_router : Edition → ℕ → Bool
fits_router First n = nat_le 64512 n && nat_le n 65534
fits_router Second n = is_router_as n

-- a peer's AS number
abbrev pub fits_peer : Edition → ℕ → Bool
fits_peer First n = nat_le 1 n && nat_le n 65534
fits_peer Second n = is_peer_as n

-- a tag: a router's AS number with a value, from 1 on
abbrev pub fits_tag : Edition → Tag → Bool
fits_tag First t = fits_router First t.asn && (nat_le 1 t.value && nat_le t.value 65535)
fits_tag Second t = is_tag t

-- AS:VALUE, and then AS:0:VALUE
abbrev pub tag_text : Edition → Tag → List ℕ
tag_text First t = decimal t.asn ++ codes ":" ++ decimal t.value
tag_text Second t = decimal t.asn ++ codes ":0:" ++ decimal t.value
