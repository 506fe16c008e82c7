-- Numbers of a network tell its locations apart.
use Rattle.std.proofs.Common.{◌≡◌, ℕ, ◌≤◌, true, false, length, Some, sym, ap, ◌∙◌, arith, inl, inr}
use Rattle.std.specs.Prelude.{◌==◌, IsTrue, nat_le}
use Rattle.std.specs.List.{list_any}
use Rattle.std.specs.Option.{option_map_or}
use Rattle.std.proofs.lemmas.Bool.{eqb-true, cases_lt, ltb-true, ltb-false, leb-true, and_parts, cases_Bool}
use Rattle.std.proofs.lemmas.List.{length-append}
use Rattle.std.proofs.lemmas.Option.{slice_get_within, slice_get_cases, slice_get_past}
use Rattle.list_law.proofs.Items.{from_behind, from_front, slice_get_in_front}
use Rattle.list_law.proofs.Keys.{one_place}
use Rattle.list_law.proofs.Each.{AllByRecursion_at}
use Rattle.list_law.proofs.Tests.{list_any_parts}
use Rattle.net_base.specs.declared.net.Site.{Site}
use Rattle.net_base.specs.Numbers.{is_router_as, is_peer_as}
use Rattle.net_base.proofs.NumberRanges.{router_as-range, peer_as-range}
use Rattle.net_base.specs.Network.{PlainNet, IsNet, sites, site_of, asn_of, is_location, is_peer}

-- ---- numbers

pub asn_is : (net : PlainNet) (l : ℕ) (s : Site) → site_of net l ≡ Some s → asn_of net l ≡ s.asn
asn_is net l s at = ap (λ o. option_map_or (λ (site : Site). site.asn) o 0) at

pub site_at : (net : PlainNet) (l : ℕ) → is_location net l ≡ true → (s : Site) × (site_of net l ≡ Some s)
site_at net l known = elim (slice_get_cases (sites net) l).1 [
  | inl t ↦ (t.0, t.2)
  | inr t ↦ absurd (omega (arith, ltb-true _ _ known, length-append net.routers net.peers, t.0))
]

pub no_asn : (net : PlainNet) (l : ℕ) → is_location net l ≡ false → asn_of net l ≡ 0
no_asn net l unknown = ap (λ o. option_map_or (λ (site : Site). site.asn) o 0) (slice_get_past (sites net) l (omega (arith, ltb-false _ _ unknown, length-append net.routers net.peers)))

asn_positive : (net : PlainNet) (l : ℕ) (s : Site) → IsNet net → site_of net l ≡ Some s → 1 ≤ s.asn
asn_positive net l s rules at = elim (cases_lt l (length net.routers)) [
  | inl t ↦
      let range = AllByRecursion_at (λ (r : Site). IsTrue (is_router_as r.asn)) net.routers l s rules.router_asns (from_front net.routers net.peers l s at t) in
      omega (arith, (router_as-range s.asn range).0)
  | inr t ↦
      let there = from_behind net.routers net.peers l s at t in
      let range = AllByRecursion_at (λ (r : Site). IsTrue (is_peer_as r.asn)) net.peers there.0 s rules.peer_asns there.1 in
      (peer_as-range s.asn range).0
]

-- a location is told by its number, also from what is no location
pub asn_tells : (net : PlainNet) (v l : ℕ) → IsNet net → is_location net v ≡ true → asn_of net l ≡ asn_of net v → l ≡ v
asn_tells net v l rules known same =
    let here = site_at net v known in
    elim (cases_Bool (is_location net l)) [
      | inl t ↦
          let there = site_at net l t in
          one_place (λ (s : Site). s.asn) (sites net) l v there.0 here.0 rules.asns there.1 here.1 (sym (asn_is net l there.0 there.1) ∙ same ∙ asn_is net v here.0 here.1)
      | inr t ↦ absurd (omega (arith, asn_positive net v here.0 rules here.1, no_asn net l t, same, asn_is net v here.0 here.1))
    ]

-- no router has the number of a peer
pub no_router_has : (net : PlainNet) (u : ℕ) → IsNet net → is_peer net u ≡ true → list_any (λ (r : Site). r.asn == asn_of net u) net.routers ≡ false
no_router_has net u rules peer = elim (cases_Bool (list_any (λ (r : Site). r.asn == asn_of net u) net.routers)) [
  | inl t ↦
      let found = list_any_parts (λ (r : Site). r.asn == asn_of net u) net.routers t in
      let here = slice_get_in_front net.routers net.peers found.0 found.1 found.2 in
      let within = slice_get_within net.routers found.0 found.1 found.2 in
      let parts = and_parts (nat_le (length net.routers) u) (is_location net u) peer in
      let other = site_at net u parts.1 in
      let same = one_place (λ (s : Site). s.asn) (sites net) found.0 u found.1 other.0 rules.asns here other.1 (eqb-true found.1.asn (asn_of net u) found.3 ∙ asn_is net u other.0 other.1) in
      absurd (omega (arith, within, same, leb-true (length net.routers) u parts.0))
  | inr t ↦ t
]
