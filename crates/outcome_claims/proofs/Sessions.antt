-- The links of a router and a peer, and where they stand.
use Rattle.std.proofs.Common.{◌≡◌, ℕ, true, length, get_or, Some, sym, ap, ◌∙◌, inl, inr}
use Rattle.std.specs.Prelude.{◌==◌, ◌&&◌, slice_get}
use Rattle.std.specs.List.{position}
use Rattle.std.proofs.lemmas.Bool.{and_parts, eqb-true, lt-ltb, or_cases, true≢false}
use Rattle.std.proofs.lemmas.List.Quantifiers.{position-Some}
use Rattle.std.proofs.lemmas.Option.{slice_get-get_or}
use Rattle.list_law.proofs.Each.{AllByRecursion_at}
use Rattle.list_law.proofs.Options.{is_some_parts}
use Rattle.list_law.proofs.Tests.{list_any_parts}
use Rattle.net_base.specs.Network.{PlainNet, IsLink, IsNet, is_peer, is_router, joins, linked}
use Rattle.net_base.proofs.LinkSearch.{is_some-position}
use Rattle.net_base.proofs.RoutersAndPeers.{peer_no_router}

module _ (net : PlainNet) (rules : IsNet net) where
  link_rules : (i : ℕ) (link : ℕ × ℕ) → slice_get net.links i ≡ Some link → IsLink net link
  link_rules i link at = AllByRecursion_at (IsLink net) net.links i link rules.links at

  -- the lesser end is a router
  pub first_router : (i : ℕ) (link : ℕ × ℕ) → slice_get net.links i ≡ Some link → is_router net link.0 ≡ true
  first_router i link at = lt-ltb link.0 (length net.routers) (link_rules i link at).2

  -- the link of a location and a peer has the location first
  pub router_first : (i a b : ℕ) (link : ℕ × ℕ) → slice_get net.links i ≡ Some link → joins a b link ≡ true → is_peer net b ≡ true → (link.0 ≡ a) × (link.1 ≡ b)
  router_first i a b link at h peer = elim (or_cases (link.0 == a && link.1 == b) (link.0 == b && link.1 == a) h) [
    | inl t ↦ (let parts = and_parts (link.0 == a) (link.1 == b) t in (eqb-true link.0 a parts.0, eqb-true link.1 b parts.1))
    | inr t ↦ (
        let parts = and_parts (link.0 == b) (link.1 == a) t in
        absurd (true≢false (sym (first_router i link at) ∙ ap (is_router net) (eqb-true link.0 b parts.0) ∙ peer_no_router net b peer)))
  ]

  -- what is linked to a peer is a router
  pub router_of_peer : (a b : ℕ) → linked net a b ≡ true → is_peer net b ≡ true → is_router net a ≡ true
  router_of_peer a b on peer =
      let found = list_any_parts (joins a b) net.links on in
      let ends = router_first found.0 a b found.1 found.2 found.3 peer in
      ap (is_router net) (sym ends.0) ∙ first_router found.0 found.1 found.2

  -- the place of a link
  pub place_found : (a b : ℕ) → linked net a b ≡ true → (i : ℕ) × (link : ℕ × ℕ) × (position (joins a b) net.links ≡ Some i) × (slice_get net.links i ≡ Some link) × (joins a b link ≡ true)
  place_found a b on =
      let at = is_some_parts (position (joins a b) net.links) (is_some-position (joins a b) net.links ∙ on) in
      let is = position-Some (joins a b) net.links at.0 (0, 0) at.1 in
      (at.0, get_or net.links at.0 (0, 0), at.1, slice_get-get_or net.links at.0 (0, 0) is.0, is.1)
