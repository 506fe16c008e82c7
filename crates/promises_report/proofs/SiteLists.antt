-- The list of routers and sessions.
use Rattle.std.proofs.Common.{◌≡◌, ℕ, ◌+◌, true, List, length, Option, Some, None, inl, inr, refl, subst}
use Rattle.std.specs.Prelude.{filter, map, nat_le}
use Rattle.std.proofs.lemmas.Bool.{and_from, and_parts, lt-ltb, ltb-true}
use Rattle.list_law.specs.Members.{IsIn}
use Rattle.list_law.proofs.Members.{IsIn-cons_cases, IsIn-filter, IsIn-filter_parts, IsIn-flat_map, IsIn-flat_map_parts, IsIn-later, IsIn-map, IsIn-map_parts}
use Rattle.net_base.specs.Locations.{in_order, numbers_below}
use Rattle.net_base.specs.Network.{PlainNet, is_location, is_peer, is_router}
use Rattle.net_base.proofs.NumbersBelow.{In-numbers_below, below_from_In}
use Rattle.promises_report.specs.Apart.{sites, sites_at}
use Rattle.promises_report.specs.Claims.{is_site}

module _ (net : PlainNet) where
  abbrev with_peer : ℕ → ℕ → ℕ × Option ℕ
  with_peer r peer = (r, Some peer)

  abbrev peers : List ℕ
  peers = filter (is_peer net) (in_order net)

  at_router : (r : ℕ) → is_router net r ≡ true → (x : ℕ × Option ℕ) → IsIn (sites_at net r) x → IsIn (sites net) x
  at_router r router x at = IsIn-flat_map (sites_at net) (numbers_below (length net.routers)) r x (In-numbers_below r (length net.routers) (ltb-true _ _ router)) at

  pub site_listed : (r : ℕ) (peer : Option ℕ) → is_site net r peer ≡ true → IsIn (sites net) (r, peer)
  site_listed r None site = at_router r site (r, None) (0, refl)
  site_listed r (Some peer) site =
      let parts = and_parts (is_router net r) (is_peer net peer) site in
      let low = (and_parts (nat_le (length net.routers) peer) (is_location net peer) parts.1).1 in
      at_router r parts.0 (r, Some peer) (IsIn-later (r, None) (r, Some peer) (map (with_peer r) peers)
      (IsIn-map (with_peer r) peers peer (IsIn-filter (is_peer net) (in_order net) peer (In-numbers_below peer (length net.routers + length net.peers) (ltb-true _ _ low)) parts.1)))

  pub listed_site : (r : ℕ) (peer : Option ℕ) → IsIn (sites net) (r, peer) → is_site net r peer ≡ true
  listed_site r peer at =
      let m = IsIn-flat_map_parts (sites_at net) (numbers_below (length net.routers)) (r, peer) at in
      let router : is_router net m.0 ≡ true = lt-ltb _ _ (below_from_In m.0 (length net.routers) m.1) in
      elim (IsIn-cons_cases (m.0, None) (map (with_peer m.0) peers) (r, peer) m.2) [
        | inl same ↦ subst (λ (x : ℕ × Option ℕ). is_site net x.0 x.1 ≡ true) same router
        | inr later ↦ (
            let p = IsIn-map_parts (with_peer m.0) peers (r, peer) later in
            let is_one = (IsIn-filter_parts (is_peer net) (in_order net) p.0 p.1).1 in
            subst (λ (x : ℕ × Option ℕ). is_site net x.0 x.1 ≡ true) p.2 (and_from _ _ router is_one))
      ]
