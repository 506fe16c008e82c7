-- Blocks of a configuration are found by the names of the network.
use Rattle.std.proofs.Common.{◌≡◌, ℕ, zero, suc, Bool, true, false, List, [], ◌∷◌, Option, Some, None, refl, arith, sym, ap, ◌∙◌, inl, inr, subst}
use Rattle.std.specs.Prelude.{◌&&◌, not, option_map, slice_get}
use Rattle.std.specs.Option.{option_map_or, option_and_then}
use Rattle.std.specs.List.{find}
use Rattle.std.specs.Str.{bytes_eq}
use Rattle.std.proofs.lemmas.Bool.{and_parts, and_from, ltb-true, true≢false}
use Rattle.std.proofs.lemmas.Option.{slice_get_cases}
use Rattle.std.proofs.lemmas.Slice.Eq.{bytes_eq-Decides}
use Rattle.list_law.proofs.Keys.{place_by_key}
use Rattle.list_law.proofs.Tests.{find_from, find_parts}
use Rattle.net_base.specs.declared.net.Site.{Site}
use Rattle.net_base.specs.Network.{PlainNet, IsNet, sites, site_of, is_named, is_peer, is_router, linked}
use Rattle.policy_base.specs.Policies.{PlainPolicy}
use Rattle.net_base.specs.Locations.{neighbours}
use Rattle.config_base.specs.declared.config.RouterConfig.{RouterConfig}
use Rattle.config_base.specs.declared.config.Session.{Session}
use Rattle.config_base.specs.Configs.{PlainConfig}
use Rattle.config_base.specs.Lines.{router_at, block_at}
use Rattle.evidence_base.specs.Made.{PlainCaseEvidence, IsBlock, AreBlocks, IsRouterBlock, IsConfigOf}
use Rattle.net_base.proofs.Neighbours.{neighbour_linked, linked_neighbour}

-- ---- names

name_of : Option Site → List ℕ → Bool
name_of o name = option_map_or (λ (site : Site). bytes_eq site.name name) o false

-- a name that a location has, by the site that it has
named-by : (net : PlainNet) (l : ℕ) (name : List ℕ) → option_map (λ (s : Site). s.name) (site_of net l) ≡ Some name → is_named net name l ≡ true
unfolding name_of
named-by net l name h = go (site_of net l) h
  where
    go : (o : Option Site) → option_map (λ (s : Site). s.name) o ≡ Some name → name_of o name ≡ true
    go None e = absurd (cc)
    go (Some s) e = let same : s.name ≡ name = cc in (bytes_eq-Decides s.name name).1 same

site-by : (net : PlainNet) (l : ℕ) (name : List ℕ) → is_named net name l ≡ true → (s : Site) × (site_of net l ≡ Some s) × (s.name ≡ name)
unfolding name_of
site-by net l name h = go (site_of net l) h
  where
    go : (o : Option Site) → name_of o name ≡ true → (s : Site) × (o ≡ Some s) × (s.name ≡ name)
    go None e = absurd (true≢false (sym e))
    go (Some s) e = (s, refl, (bytes_eq-Decides s.name name).0 e)

-- two locations with one name are one
pub one_name : (net : PlainNet) (k l : ℕ) (name : List ℕ) → IsNet net → is_named net name k ≡ true → is_named net name l ≡ true → k ≡ l
one_name net k l name rules h g =
    let a = site-by net k name h in
    let b = site-by net l name g in
    let same : a.0.name ≡ b.0.name = a.2 ∙ sym b.2 in
    place_by_key bytes_eq (λ (s : Site). s.name) (sites net) k l a.0 b.0 rules.names a.1 b.1 ((bytes_eq-Decides a.0.name b.0.name).1 same) ((bytes_eq-Decides b.0.name a.0.name).1 (sym same))

-- ---- the block of a neighbour among the blocks

block_there : (net : PlainNet) (cs : List PlainCaseEvidence) (x : ℕ) (zs : List ℕ) (bs : List Session) (i z : ℕ) → AreBlocks net cs x zs bs
    → slice_get zs i ≡ Some z → (b : Session) × (slice_get bs i ≡ Some b) × IsBlock net cs x z b
block_there net cs x [] bs i z all at = absurd cc
block_there net cs x (k ∷ zs) [] i z all at = absurd all
block_there net cs x (k ∷ zs) (b ∷ bs) zero z all at = let same : k ≡ z = cc in (b, refl, subst (λ l. IsBlock net cs x l b) same all.0)
block_there net cs x (k ∷ zs) (b ∷ bs) (suc i) z all at = block_there net cs x zs bs i z all.1 at

place_there : (net : PlainNet) (cs : List PlainCaseEvidence) (x : ℕ) (zs : List ℕ) (bs : List Session) (i : ℕ) (b : Session)
    → AreBlocks net cs x zs bs → slice_get bs i ≡ Some b → (z : ℕ) × (slice_get zs i ≡ Some z) × IsBlock net cs x z b
place_there net cs x zs [] i b all at = absurd cc
place_there net cs x [] (c ∷ bs) i b all at = absurd all
place_there net cs x (k ∷ zs) (c ∷ bs) zero b all at = let same : c ≡ b = cc in (k, refl, subst (λ d. IsBlock net cs x k d) same all.0)
place_there net cs x (k ∷ zs) (c ∷ bs) (suc i) b all at = place_there net cs x zs bs i b all.1 at

-- ---- what is found by name

kind : Bool → Bool → Bool
kind true b = b
kind false b = not b

kind_same : (a b : Bool) → a ≡ b → kind a b ≡ true
unfolding kind
kind_same true true h = refl
kind_same true false h = absurd (true≢false h)
kind_same false true h = absurd (true≢false (sym h))
kind_same false false h = refl

abbrev is_block : PlainNet → ℕ → Session → Bool
is_block net z b = is_named net b.name z && kind b.peer (is_peer net z)

module _ (net : PlainNet) (policy : PlainPolicy) (cs : List PlainCaseEvidence) (config : PlainConfig) (rules : IsNet net) (made : IsConfigOf net policy cs config) where
  named_router : (x : ℕ) (r : RouterConfig) → IsRouterBlock net cs x r → is_named net r.name x ≡ true
  named_router x r block = named-by net x r.name (ap (option_map (λ (s : Site). s.name)) block.site)

  pub router_found : (x : ℕ) → is_router net x ≡ true → (r : RouterConfig) × (router_at net config x ≡ Some r) × IsRouterBlock net cs x r
  router_found x router = elim (slice_get_cases config.routers x).1 [
    | inr t ↦ absurd (omega (arith, ltb-true _ _ router, made.count, t.0))
    | inl t ↦
        let test = λ (c : RouterConfig). is_named net c.name x in
        let here = made.routers x t.0 t.2 in
        let found = find_from test config.routers x t.0 t.2 (named_router x t.0 here) in
        let back = find_parts test config.routers found.0 found.1 in
        let there = made.routers back.0 found.0 back.1 in
        let same : back.0 ≡ x = one_name net back.0 x found.0.name rules (named_router back.0 found.0 there) back.2 in
        (found.0, rw router found.1, subst (λ l. IsRouterBlock net cs l found.0) same there)
  ]

  is_block-of : (x z : ℕ) (b : Session) → IsBlock net cs x z b → is_block net z b ≡ true
  is_block-of x z b block = and_from (is_named net b.name z) (kind b.peer (is_peer net z)) (named-by net z b.name block.name) (kind_same b.peer (is_peer net z) block.peer)

  -- a block that has the name of z is that of z
  block_is : (x z i : ℕ) (r : RouterConfig) (b : Session) → IsRouterBlock net cs x r → slice_get r.sessions i ≡ Some b → is_block net z b ≡ true → (linked net x z ≡ true) × IsBlock net cs x z b
  block_is x z i r b block at h =
      let named = (and_parts (is_named net b.name z) (kind b.peer (is_peer net z)) h).0 in
      let there = place_there net cs x (neighbours net x) r.sessions i b block.sessions at in
      let same : there.0 ≡ z = one_name net there.0 z b.name rules (named-by net there.0 b.name there.2.name) named in
      (subst (λ l. linked net x l ≡ true) same (neighbour_linked net x i there.0 there.1), subst (λ l. IsBlock net cs x l b) same there.2)

  block_of : (x z : ℕ) (o : Option RouterConfig) (r : RouterConfig) (b : Session) → o ≡ Some r → find (is_block net z) r.sessions ≡ Some b
      → option_and_then (λ (c : RouterConfig). find (is_block net z) c.sessions) o ≡ Some b
  block_of x z o r b is found = ap (option_and_then (λ (c : RouterConfig). find (is_block net z) c.sessions)) is ∙ found

  -- each linked location has its block
  pub block_found : (x z : ℕ) → is_router net x ≡ true → linked net x z ≡ true → (b : Session) × (block_at net config x z ≡ Some b) × IsBlock net cs x z b
  unfolding kind
  block_found x z router link =
      let r = router_found x router in
      let at = linked_neighbour net x z rules link in
      let b = block_there net cs x (neighbours net x) r.0.sessions at.0 z r.2.sessions at.1 in
      let found = find_from (is_block net z) r.0.sessions at.0 b.0 b.1 (is_block-of x z b.0 b.2) in
      let back = find_parts (is_block net z) r.0.sessions found.0 found.1 in
      (found.0, block_of x z (router_at net config x) r.0 found.0 r.1 found.1, (block_is x z back.0 r.0 found.0 r.2 back.1 back.2).1)

  -- and no other has one
  pub block_only : (x z : ℕ) (b : Session) → is_router net x ≡ true → block_at net config x z ≡ Some b → (linked net x z ≡ true) × IsBlock net cs x z b
  unfolding kind
  block_only x z b router h =
      let r = router_found x router in
      let there : find (is_block net z) r.0.sessions ≡ Some b = sym (ap (option_and_then (λ (c : RouterConfig). find (is_block net z) c.sessions)) r.1) ∙ h in
      let back = find_parts (is_block net z) r.0.sessions b there in
      block_is x z back.0 r.0 b r.2 back.1 back.2
