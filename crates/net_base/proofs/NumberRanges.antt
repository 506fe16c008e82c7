-- AS numbers and tags within their ranges.
use Rattle.std.proofs.Common.{◌≡◌, ℕ, ◌<◌, ◌≤◌, ◌^◌, true, arith, inl, inr}
use Rattle.std.specs.Prelude.{◌&&◌, IsTrue, nat_le}
use Rattle.std.proofs.lemmas.Bool.{and_parts, and_from, or_cases, or_left, leb-true, le-leb}
use Rattle.net_base.specs.declared.numbers.Tag.{Tag}
use Rattle.net_base.specs.Numbers.{is_router_as, is_peer_as, is_tag}

-- what lies between two numbers
between : (least most n : ℕ) → (nat_le least n && nat_le n most) ≡ true → (least ≤ n) × (n ≤ most)
between least most n is =
    let parts = and_parts (nat_le least n) (nat_le n most) is in
    (leb-true least n parts.0, leb-true n most parts.1)

inside : (least most n : ℕ) → least ≤ n → n ≤ most → (nat_le least n && nat_le n most) ≡ true
inside least most n low high = and_from _ _ (le-leb least n low) (le-leb n most high)

pub router_as-range : (n : ℕ) → IsTrue (is_router_as n) → (64512 ≤ n) × (n < 2 ^ 32)
router_as-range n is = elim (or_cases (nat_le 64512 n && nat_le n 65534) (nat_le 4200000000 n && nat_le n 4294967294) is) [
  | inl t ↦ let has = between 64512 65534 n t in (has.0, omega (arith, has.1))
  | inr t ↦ let has = between 4200000000 4294967294 n t in (omega (arith, has.0), omega (arith, has.1))
]

pub peer_as-range : (n : ℕ) → IsTrue (is_peer_as n) → (1 ≤ n) × (n < 2 ^ 32)
peer_as-range n is = elim (or_cases (nat_le 1 n && nat_le n 65534) (nat_le 65536 n && nat_le n 4294967294) is) [
  | inl t ↦ let has = between 1 65534 n t in (has.0, omega (arith, has.1))
  | inr t ↦ let has = between 65536 4294967294 n t in (omega (arith, has.0), omega (arith, has.1))
]

pub tag-range : (t : Tag) → IsTrue (is_tag t) → (64512 ≤ t.asn) × (t.asn < 2 ^ 32) × (1 ≤ t.value) × (t.value < 2 ^ 32)
tag-range t is =
    let parts = and_parts (is_router_as t.asn) (nat_le 1 t.value && nat_le t.value 4294967295) is in
    let asn = router_as-range t.asn parts.0 in
    let value = between 1 4294967295 t.value parts.1 in
    (asn.0, asn.1, value.0, omega (arith, value.1))

-- private numbers of two octets
pub router_as-two_octets : (n : ℕ) → 64512 ≤ n → n ≤ 65534 → IsTrue (is_router_as n)
router_as-two_octets n low high = or_left _ _ (inside 64512 65534 n low high)

-- numbers of two octets that aren't reserved
pub peer_as-two_octets : (n : ℕ) → 1 ≤ n → n ≤ 65534 → IsTrue (is_peer_as n)
peer_as-two_octets n low high = or_left _ _ (inside 1 65534 n low high)

-- a router's number with a value
pub tag-made : (t : Tag) → IsTrue (is_router_as t.asn) → 1 ≤ t.value → t.value < 2 ^ 32 → IsTrue (is_tag t)
tag-made t asn low high = and_from (is_router_as t.asn) _ asn (inside 1 4294967295 t.value low (omega (arith, high)))
