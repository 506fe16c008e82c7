-- The ranges of the editions: all numbers have 32 bits, and what fits the first edition fits the second.
use Rattle.std.proofs.Common.{ℕ, ◌<◌, ◌≤◌, ◌^◌, arith}
use Rattle.std.specs.Prelude.{◌&&◌, IsTrue, nat_le}
use Rattle.std.proofs.lemmas.Bool.{and_parts, leb-true}
use Rattle.net_base.specs.Numbers.{is_router_as, is_peer_as, is_tag}
use Rattle.net_base.specs.declared.numbers.Tag.{Tag}
use Rattle.net_base.proofs.NumberRanges.{router_as-range, peer_as-range, tag-range, router_as-two_octets, peer_as-two_octets, tag-made}
use Rattle.config_lines.specs.declared.edition.Edition.{Edition}
use Rattle.config_lines.specs.declared.edition.Edition.TheVariants.{First, Second}
use Rattle.config_lines.specs.declared.line.Line.{Line}
use Rattle.config_lines.specs.declared.line.Line.TheVariants as line
use Rattle.config_lines.specs.Editions.{fits_router, fits_peer, fits_tag}
use Rattle.config_lines.specs.LineText.{IsLine}

-- what lies between two numbers
between : (least most n : ℕ) → IsTrue (nat_le least n && nat_le n most) → (least ≤ n) × (n ≤ most)
between least most n is =
    let parts = and_parts (nat_le least n) (nat_le n most) is in
    (leb-true least n parts.0, leb-true n most parts.1)

pub router_wide : (e : Edition) (n : ℕ) → IsTrue (fits_router e n) → IsTrue (is_router_as n)
router_wide First n is = let has = between 64512 65534 n is in router_as-two_octets n has.0 has.1
router_wide Second n is = is

pub peer_wide : (e : Edition) (n : ℕ) → IsTrue (fits_peer e n) → IsTrue (is_peer_as n)
peer_wide First n is = let has = between 1 65534 n is in peer_as-two_octets n has.0 has.1
peer_wide Second n is = is

pub tag_wide : (e : Edition) (t : Tag) → IsTrue (fits_tag e t) → IsTrue (is_tag t)
tag_wide First t is =
    let parts = and_parts (fits_router First t.asn) (nat_le 1 t.value && nat_le t.value 65535) is in
    let has = between 1 65535 t.value parts.1 in
    tag-made t (router_wide First t.asn parts.0) has.0 (omega (arith, has.1))
tag_wide Second t is = is

pub router_low : (e : Edition) (n : ℕ) → IsTrue (fits_router e n) → n < 2 ^ 32
router_low e n is = (router_as-range n (router_wide e n is)).1

pub peer_low : (e : Edition) (n : ℕ) → IsTrue (fits_peer e n) → n < 2 ^ 32
peer_low e n is = (peer_as-range n (peer_wide e n is)).1

pub tag_low : (e : Edition) (t : Tag) → IsTrue (fits_tag e t) → (t.asn < 2 ^ 32) × (t.value < 2 ^ 32)
tag_low e t is = let has = tag-range t (tag_wide e t is) in (has.1, has.3)

-- a line of either edition is one of the second
pub line_wide : (e : Edition) (count : ℕ) (l : Line) → IsLine e count l → IsLine Second count l
line_wide e count (line.Class number patterns) is = is
line_wide e count (line.Router name asn id) is = (is.0, router_wide e asn is.1, is.2, is.3)
line_wide e count (line.Origination o) is = ((is.0.0, tag_wide e o.tag is.0.1), is.1)
line_wide e count (line.Session name asn) is = (is.0, router_wide e asn is.1)
line_wide e count (line.Peer name asn) is = (is.0, peer_wide e asn is.1)
line_wide e count (line.Import r) is = (tag_wide e r.tag is.0, (is.1.0, tag_wide e r.set is.1.1, is.1.2))
line_wide e count (line.PeerImport r) is = (is.0, (is.1.0, tag_wide e r.set is.1.1, is.1.2))
line_wide e count (line.Export x) is = (is.0, tag_wide e x.tag is.1)
line_wide e count line.End is = tt
