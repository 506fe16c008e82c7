-- Packets follow the paths of the routes.
use Rattle.std.proofs.Common.{◌≡◌, ℕ, ◌≤◌, zero, suc, true, false, List, [], ◌∷◌, ◌++◌, length, Some, refl, arith, sym, ap, ◌∙◌, inl, inr, subst}
use Rattle.std.specs.Prelude.{◌&&◌, ◌==◌, not, option_and_then, slice_get}
use Rattle.std.specs.List.{list_any}
use Rattle.std.specs.Option.{option_map_or}
use Rattle.std.proofs.lemmas.Bool.{and_from, and_parts, cases_Bool, leb-true, not_from_false, true≢false}
use Rattle.std.proofs.lemmas.Option.{slice_get_past}
use Rattle.net_base.specs.Network.{PlainNet, IsNet, is_location, is_peer, is_router}
use Rattle.net_base.specs.Prefixes.{PlainPrefix}
use Rattle.net_base.proofs.RoutersAndPeers.{peer_no_router, router_no_peer}
use Rattle.policy_base.specs.Policies.{PlainPolicy, PlainStatement}
use Rattle.policy_base.specs.Governing.{is_origin, statement_of}
use Rattle.policy_base.specs.Walks.{is_loop_free}
use Rattle.config_base.specs.declared.route.Route.{Route}
use Rattle.config_base.specs.Configs.{PlainConfig}
use Rattle.config_base.specs.Lines.{is_looped}
use Rattle.outcome_base.specs.Outcomes.{Failures, Outcome, is_dead, is_live, is_silent, route_at, IsStable, offered}
use Rattle.outcome_base.specs.Right.{IsRightBy, IsRightOutcome}
use Rattle.list_law.proofs.Options.{cases_Option}
use Rattle.outcome_law.specs.Packets.{next_hop, trail, IsHop, IsCarried, Follows, PacketsFollowPaths, PacketsTakeBestPaths, PeersFollowOffers}
use Rattle.evidence_law.proofs.Hops.{Comes, Holds, apart, begins, chosen, comes_begins, lives, live_flips, offer_parts, own_path}

same_head : (a b : ℕ) (xs ys : List ℕ) → a ∷ xs ≡ b ∷ ys → a ≡ b
same_head a b xs ys h = cc

same_tail : (a b : ℕ) (xs ys : List ℕ) → a ∷ xs ≡ b ∷ ys → xs ≡ ys
same_tail a b xs ys h = cc

no_end : (front back : List ℕ) (u : ℕ) → [] ≡ front ++ u ∷ back → ⊥
no_end [] back u h = cc
no_end (a ∷ front) back u h = cc

module _ (net : PlainNet) (policy : PlainPolicy) (config : PlainConfig) (f : Failures) (p : PlainPrefix) (outcome : Outcome) (rules : IsNet net)
    (stable : IsStable net policy config f p outcome) (size : length outcome ≡ length net.routers) where
  -- what stands at a place of a path
  record IsAt (r : ℕ) (tail : List ℕ) : Type 0 where
    pub held : is_router net r ≡ true → Holds net policy config f p outcome rules r (r ∷ tail)
    pub next : next_hop outcome r ≡ slice_get tail 0

  abbrev Chained : ℕ → List ℕ → Type 0
  Chained r [] = IsAt r [] × ((is_origin net policy p r && not (is_dead f r)) ≡ true)
  Chained r (z ∷ rest) = IsAt r (z ∷ rest) × IsHop net policy f p outcome r z × (list_any (λ l. l == r) (z ∷ rest) ≡ false) × Chained z rest

  router_at : (r : ℕ) (h : Route) (tail : List ℕ) → route_at outcome r ≡ Some h → h.path ≡ r ∷ tail → IsAt r tail
  router_at r h tail at is = record {
    held = λ router. (h, at, is);
    next = ap (option_and_then (λ (g : Route). slice_get g.path 1)) at ∙ ap (λ (q : List ℕ). slice_get q 1) is;
  }

  peer_at : (z : ℕ) → is_peer net z ≡ true → IsAt z []
  peer_at z peer =
      let past : length outcome ≤ z = omega (arith, size, leb-true (length net.routers) z (and_parts _ (is_location net z) peer).0) in
      record {
        held = λ router. absurd (true≢false (sym router ∙ peer_no_router net z peer));
        next = ap (λ o. option_and_then (λ (g : Route). slice_get g.path 1) (option_and_then (λ o. o) o)) (slice_get_past outcome z past);
      }

  -- what comes from z goes on from z
  hop : (r z : ℕ) (h : Route) (rest : List ℕ) → is_router net r ≡ true → is_origin net policy p r ≡ false → route_at outcome r ≡ Some h → h.path ≡ r ∷ z ∷ rest
      → is_live net f z r ≡ true → Comes net policy config f p outcome rules z r (z ∷ rest) → IsHop net policy f p outcome r z
  hop r z h rest router other at is live comes = record {
    at_router = and_from (is_router net r) (not (is_origin net policy p r)) router (not_from_false _ other);
    next = (router_at r h (z ∷ rest) at is).next;
    live = live_flips net f z r live;
    heard = not_from_false (is_peer net z && is_silent f r z) (unsilent comes);
  }
    where
      unsilent : Comes net policy config f p outcome rules z r (z ∷ rest) → (is_peer net z && is_silent f r z) ≡ false
      unsilent (inl peer) = rw (peer.0, peer.2) refl
      unsilent (inr from) = rw (router_no_peer net z from.0) refl

  up : (z r : ℕ) → is_live net f z r ≡ true → not (is_dead f z) ≡ true
  up z r live = (and_parts _ _ (and_parts _ _ live).0).1

  chained : (tail : List ℕ) (r : ℕ) (h : Route) → is_router net r ≡ true → route_at outcome r ≡ Some h → h.path ≡ r ∷ tail → Chained r tail
  chained [] r h router at is = elim (cases_Bool (is_origin net policy p r)) [
    | inl own ↦ (router_at r h [] at is, and_from (is_origin net policy p r) (not (is_dead f r)) own (not_from_false _ (lives net policy config f p outcome rules stable r h at)))
    | inr other ↦
        let x = chosen net policy config f p outcome rules stable r h router other at in
        let y = comes_begins net policy config f p outcome rules stable x.0 r x.1.path x.1.comes in
        let none : [] ≡ x.0 ∷ y.0 = same_tail r r [] x.1.path (sym is ∙ x.1.begins) ∙ y.1 in
        absurd (cc)
  ]
  chained (k ∷ ks) r h router at is = elim (cases_Bool (is_origin net policy p r)) [
    | inl own ↦
        let clash : k ∷ ks ≡ [] = same_tail r r (k ∷ ks) [] (sym is ∙ own_path net policy config f p outcome rules stable r h router own at) in
        absurd (cc)
    | inr other ↦
        let x = chosen net policy config f p outcome rules stable r h router other at in
        let same : x.1.path ≡ k ∷ ks = same_tail r r x.1.path (k ∷ ks) (sym x.1.begins ∙ is) in
        let y = comes_begins net policy config f p outcome rules stable x.0 r x.1.path x.1.comes in
        let z : x.0 ≡ k = same_head x.0 k y.0 ks (sym y.1 ∙ same) in
        let there = subst (λ (q : List ℕ). Comes net policy config f p outcome rules x.0 r q) same x.1.comes in
        let comes = subst (λ (l : ℕ). Comes net policy config f p outcome rules l r (k ∷ ks)) z there in
        let live = subst (λ (l : ℕ). is_live net f l r ≡ true) z x.1.live in
        let free =
        apart net policy config f p outcome rules stable k r (k ∷ ks) router comes
        (subst (λ (l : ℕ). is_looped net r l (k ∷ ks) ≡ false) z (subst (λ (q : List ℕ). is_looped net r x.0 q ≡ false) same x.1.unlooped)) in
        let onward : Chained k ks = elim comes [
          | inl peer ↦
              let last : ks ≡ [] = same_tail k k ks [] peer.3 in
              subst (Chained k) (sym last) (peer_at k peer.0, and_from (is_origin net policy p k) (not (is_dead f k)) peer.1 (up k r live))
          | inr from ↦ chained ks k from.1.0 from.0 from.1.1 from.1.2
        ] in
        (router_at r h (k ∷ ks) at is, hop r k h ks router other at is live comes, free, onward)
  ]

  carried : (tail : List ℕ) (r : ℕ) → Chained r tail → IsCarried net policy f p outcome (r ∷ tail)
  carried [] r x = x.1
  carried (z ∷ rest) r x = (x.1, carried rest z x.3)

  exact : (tail : List ℕ) (r n : ℕ) → Chained r tail → length (r ∷ tail) ≤ suc n → trail outcome n r ≡ r ∷ tail
  exact [] r zero x h = refl
  exact [] r (suc n) x h = ap (λ o. r ∷ option_map_or (λ z. trail outcome n z) o []) x.0.next
  exact (z ∷ rest) r zero x h = absurd (omega (arith, h))
  exact (z ∷ rest) r (suc n) x h = ap (λ o. r ∷ option_map_or (λ z. trail outcome n z) o []) x.0.next ∙ ap (λ q. r ∷ q) (exact rest z n x.3 (omega (arith, h)))

  free : (tail : List ℕ) (r : ℕ) → Chained r tail → is_loop_free (r ∷ tail) ≡ true
  free [] r x = refl
  free (z ∷ rest) r x = and_from (not (list_any (λ k. k == r) (z ∷ rest))) (is_loop_free (z ∷ rest)) (not_from_false _ x.2) (free rest z x.3)

  rests : (tail : List ℕ) (r : ℕ) (front back : List ℕ) (u : ℕ) → Chained r tail → r ∷ tail ≡ front ++ u ∷ back → is_router net u ≡ true → Holds net policy config f p outcome rules u (u ∷ back)
  rests [] r [] back u x e router =
      subst (λ (q : List ℕ). Holds net policy config f p outcome rules u q) e
      (subst (λ (l : ℕ). Holds net policy config f p outcome rules l (r ∷ [])) (same_head r u [] back e) (x.0.held (ap (is_router net) (same_head r u [] back e) ∙ router)))
  rests [] r (a ∷ front) back u x e router = absurd (no_end front back u (same_tail r a [] (front ++ u ∷ back) e))
  rests (z ∷ rest) r [] back u x e router =
      subst (λ (q : List ℕ). Holds net policy config f p outcome rules u q) e
      (subst (λ (l : ℕ). Holds net policy config f p outcome rules l (r ∷ z ∷ rest)) (same_head r u (z ∷ rest) back e) (x.0.held (ap (is_router net) (same_head r u (z ∷ rest) back e) ∙ router)))
  rests (z ∷ rest) r (a ∷ front) back u x e router = rests rest z front back u x.3 (same_tail r a (z ∷ rest) (front ++ u ∷ back) e) router

  follows : (r : ℕ) (tail : List ℕ) → Chained r tail → Follows net policy f p outcome r (r ∷ tail)
  follows r tail x = record {
    begins = (tail, refl);
    carried = carried tail r x;
    exact = λ n h. exact tail r n x h;
    free = free tail r x;
    rests = λ front back u e router. rests tail r front back u x e router;
  }

  pub packets : (r : ℕ) (h : Route) → is_router net r ≡ true → route_at outcome r ≡ Some h → Follows net policy f p outcome r h.path
  packets r h router at =
      let b = begins net policy config f p outcome rules stable r h router at in
      subst (Follows net policy f p outcome r) (sym b.1) (follows r b.0 (chained b.0 r h router at b.1))

  pub offers : (r peer : ℕ) (path : List ℕ) → offered net policy config f p outcome r peer ≡ Some path
      → (rest : List ℕ) × (path ≡ peer ∷ rest) × (is_live net f r peer ≡ true) × (is_loop_free path ≡ true) × Follows net policy f p outcome r rest
  offers r peer path h =
      let x = offer_parts net policy config f p outcome rules r peer path h in
      let way = packets r x.route x.router x.held in
      let loose : is_loop_free (peer ∷ x.route.path) ≡ true = and_from (not (list_any (λ k. k == peer) x.route.path)) (is_loop_free x.route.path) (not_from_false _ x.off) way.free in
      (x.route.path, x.is, x.live, ap is_loop_free x.is ∙ loose, way)

pub peers_follow_offers : PeersFollowOffers
peers_follow_offers net policy config rules p f outcome size stable r peer path h = offers net policy config f p outcome rules stable size r peer path h

-- ---- a configuration that is right

by_statement : (net : PlainNet) (policy : PlainPolicy) (config : PlainConfig) (f : Failures) (p : PlainPrefix) (outcome : Outcome) (s : PlainStatement)
    → statement_of policy p ≡ Some s → IsRightOutcome net policy config f p outcome ≡ IsRightBy net policy config f p s outcome
by_statement net policy config f p outcome s is = rw is refl

pub packets_take_best_paths : PacketsTakeBestPaths
packets_take_best_paths net policy config rules right p f outcome s prefix governs size stable r claimed =
    let by : IsRightBy net policy config f p s outcome = subst (λ (T : Type 0). T) (by_statement net policy config f p outcome s governs) (right p f outcome prefix size stable) in
    elim (cases_Option (route_at outcome r)) [
      | inl none ↦ inr (ap (option_and_then (λ (g : Route). slice_get g.path 1)) none, by.unrouted r claimed none)
      | inr h ↦ (let good = by.used r h.0 claimed h.1 in inl (h.0.path, packets net policy config f p outcome rules stable size r h.0 claimed.at_router h.1, good.0, good.1))
    ]

pub packets_follow_paths : PacketsFollowPaths
packets_follow_paths net policy config rules p f outcome size stable r h router at = packets net policy config f p outcome rules stable size r h router at
