-- Where peers announce what they like, what ties with whole AS paths compared ties in the outcome as far as its paths lead within the network.
use Rattle.std.proofs.Common.{◌≡◌, ℕ, suc, ◌+◌, ◌≤◌, true, false, List, [], ◌∷◌, length, None, Some, refl, arith, sym, ap, ap₂, ◌∙◌, inl, inr, subst}
use Rattle.std.specs.Prelude.{◌⊎◌, ◌&&◌, not, option_map}
use Rattle.std.proofs.lemmas.Bool.{and_from, and_parts, cases_Bool, false_from_ne_true, not_from_false, true≢false}
use Rattle.std.proofs.lemmas.List.{length-map}
use Rattle.std.proofs.lemmas.Option.{same_Some}
use Rattle.list_law.proofs.Options.{cases_Option, none_or_some, option_map_parts}
use Rattle.net_base.specs.Network.{PlainNet, IsNet, is_peer, is_router}
use Rattle.net_base.specs.Prefixes.{PlainPrefix, IsPrefix}
use Rattle.net_base.proofs.RoutersAndPeers.{peer_no_router, router_no_peer}
use Rattle.policy_base.specs.Policies.{PlainPolicy, PlainStatement, IsPolicyOf}
use Rattle.policy_base.specs.Governing.{is_origin, statement_of}
use Rattle.policy_base.specs.Walks.{is_loop_free}
use Rattle.config_base.specs.declared.route.Route.{Route}
use Rattle.config_base.specs.Configs.{PlainConfig}
use Rattle.config_base.specs.Lines.{own_route}
use Rattle.evidence_base.specs.Made.{PlainCaseEvidence}
use Rattle.outcome_base.specs.Announcements.{Announced, Announcements, FullRoute, FullOutcome, Sent, full_at, inside, silenced, sent_under, given_under, offered_under, IsStableUnder}
use Rattle.outcome_base.specs.Outcomes.{Failures, is_dead, is_live, is_silent, given, offered, route_at, IsStable}
use Rattle.evidence_law.specs.Passes.{Passes}
use Rattle.evidence_law.proofs.Hops.{Comes, begins, given_parts, offer_parts}
use Rattle.evidence_law.proofs.Surviving.{survives-alive}
use Rattle.outcome_law.proofs.Announced.{announcements_are_silences}
use Rattle.outcome_law.proofs.Heard.{offers_are_taken}
use Rattle.outcome_law.proofs.Inside.{clean_behind, given-parts, given_same, route_at-inside, route_in, router-sends, taken-parts}
use Rattle.outcome_law.proofs.Peers.{no_line}
use Rattle.multipath_law.specs.Announced.{ArriveUnder, IsMemberUnder, behind_end, whole}
use Rattle.multipath_law.specs.Laws.{AreRightWays, SpreadPacketsArriveUnder, SpreadsAreRightUnder}
use Rattle.multipath_law.specs.Spread.{AreRightSpreadsUnder}
use Rattle.multipath_law.specs.Multipath.{IsTied, IsTrail, IsWay, is_up}
use Rattle.multipath_law.proofs.Lengths.{way_alive}
use Rattle.multipath_law.proofs.Right.{tied_ways}
use Rattle.multipath_law.proofs.Ways.{way_map, way_trail}
use Rattle.multipath_law.proofs.Ways as ways

module _ (net : PlainNet) (policy : PlainPolicy) (config : PlainConfig) (cs : List PlainCaseEvidence) (rules : IsNet net) (kept : IsPolicyOf net policy) (passes : Passes net policy config cs)
    (p : PlainPrefix) (f : Failures) (says : Announcements) (full : FullOutcome) (prefix : IsPrefix p) (stable : IsStableUnder net policy config f says p full) where
  abbrev Mute : Failures
  Mute = silenced net says f

  abbrev Member : ℕ → ℕ → Type 0
  Member r z = IsMemberUnder net policy config f says p full r z

  pub inner : IsStable net policy config Mute p (inside full)
  inner = announcements_are_silences net policy config cs rules kept passes.made p f says full prefix stable

  gift : (z r : ℕ) (t : FullRoute) → is_router net r ≡ true → given_under net config f says p full z r ≡ Some t
      → given net policy config Mute p (inside full) z r ≡ Some t.route
  gift z r t router by =
      sym (given_same net policy config f says p full rules (clean_behind net policy config f says p full rules stable)
      (λ class of_class u v peer at_router other tag. no_line net policy config cs rules kept passes.made p prefix class of_class u v peer at_router other tag) z r router)
      ∙ ap (option_map route_in) by

  held_inside : (r : ℕ) (t : FullRoute) → full_at full r ≡ Some t → route_at (inside full) r ≡ Some t.route
  held_inside r t at = route_at-inside full r ∙ ap (option_map route_in) at

  pub as_tied : (r z : ℕ) → Member r z → IsTied net policy config Mute p (inside full) r z
  as_tied r z m = record {
    at_router = m.at_router;
    own = m.own.route;
    held = held_inside r m.own m.held;
    route = m.route.route;
    gives = gift z r m.route (and_parts (is_router net r) (not (is_origin net policy p r)) m.at_router).0 m.gives;
    pref = m.pref;
  }

  -- ---- the whole AS path gets shorter

  abbrev Stands : ℕ → ℕ → Type 0
  Stands u n =
      ((is_router net u ≡ true) × (t : FullRoute) × (full_at full u ≡ Some t) × (whole t ≡ n))
      ⊎ ((is_peer net u ≡ true) × (is_up net policy f p u ≡ true) × (1 ≤ n))

  positive : (u n : ℕ) → Stands u n → 1 ≤ n
  positive u n (inl s) =
      let b = begins net policy config Mute p (inside full) rules inner u s.1.route s.0 (held_inside u s.1 s.2) in
      let count = ap length b.1 in
      omega (arith, s.3, count)
  positive u n (inr s) = s.2

  holder : (u z n : ℕ) → Member u z → Stands u n → (t : FullRoute) × (full_at full u ≡ Some t) × (whole t ≡ n)
  holder u z n m (inl s) = (s.1, s.2, s.3)
  holder u z n m (inr s) = absurd (true≢false (sym (and_parts _ _ m.at_router).0 ∙ peer_no_router net u s.0))

  same_tail : (a b : ℕ) (xs ys : List ℕ) → a ∷ xs ≡ b ∷ ys → xs ≡ ys
  same_tail a b xs ys h = cc

  stands_there : (u z : ℕ) (t : FullRoute) (path : List ℕ) → given_under net config f says p full z u ≡ Some t → t.route.path ≡ u ∷ path → is_live net Mute z u ≡ true
      → Comes net policy config Mute p (inside full) rules z u path → Stands z (length path + length t.behind)
  stands_there u z t path by is live (inl peer) =
      let alive = (and_parts _ (not (is_dead f z)) (and_parts _ (not (is_dead f u)) live).0).1 in
      let count = ap length peer.3 in
      inr (peer.0, and_from (is_origin net policy p z) (not (is_dead f z)) peer.1 alive, omega (arith, count))
  stands_there u z t path by is live (inr from) =
      let x = given-parts net policy config f says p full z u t by in
      let made = taken-parts net config x.1 u z x.3 t x.5 in
      let y = router-sends net policy config f says p full z u x.3 (router_no_peer net z from.0) x.4 in
      let tail : x.3.path ≡ path = same_tail u u x.3.path path (sym made.1 ∙ is) in
      let front = ap length (sym y.2 ∙ tail) in
      let back = ap length (sym y.3 ∙ sym made.2) in
      inl (from.0, y.0, y.1, ap₂ (λ (a b : ℕ). a + b) front back)

  falls : (u z n : ℕ) → Member u z → Stands u n → (m : ℕ) × (n ≡ suc m) × Stands z m
  falls u z n t s =
      let router = (and_parts (is_router net u) (not (is_origin net policy p u)) t.at_router).0 in
      let x = given_parts net policy config Mute p (inside full) rules z u t.route.route (gift z u t.route router t.gives) in
      let g = holder u z n t s in
      let same : t.own ≡ g.0 = same_Some t.own g.0 (sym t.held ∙ g.1) in
      let equal : whole t.own ≡ n = ap (λ (a : FullRoute). whole a) same ∙ g.2 in
      let count : length t.route.route.path ≡ suc (length x.path) = ap length x.begins in
      let all : n ≡ suc (length x.path + length t.route.behind) = omega (arith, equal, count, t.numbers) in
      (length x.path + length t.route.behind, all, stands_there u z t.route x.path t.gives x.begins x.live x.comes)

  one : (u z m n : ℕ) → Member u z → Stands u m → Stands u n → m ≡ n
  one u z m n t a b =
      let g = holder u z m t a in
      let h = holder u z n t b in
      let same : g.0 ≡ h.0 = same_Some g.0 h.0 (sym g.1 ∙ h.1) in
      sym g.2 ∙ ap (λ (x : FullRoute). whole x) same ∙ h.2

  alive_at : (u : ℕ) (t : FullRoute) → full_at full u ≡ Some t → is_dead f u ≡ false
  alive_at u t at = false_from_ne_true (is_dead f u) (λ dead. none_or_some (full_at full u) t (stable.dead u dead) at)

  goes : (u n : ℕ) → Stands u n → true ≡ true → (is_up net policy f p u ≡ true) ⊎ ((z : ℕ) × Member u z)
  goes u n (inr s) on = inl s.1
  goes u n (inl s) on =
      let alive = not_from_false _ (alive_at u s.1 s.2) in
      elim (cases_Bool (is_origin net policy p u)) [
        | inl own ↦ inl (and_from (is_origin net policy p u) (not (is_dead f u)) own alive)
        | inr off ↦
            let who = and_from (is_router net u) (not (is_origin net policy p u)) s.0 (not_from_false _ off) in
            let by = (stable.chooses u (and_from (is_router net u && not (is_origin net policy p u)) (not (is_dead f u)) who alive)).given_by s.1 s.2 in
            inr (by.0, record { at_router = who; own = s.1; held = s.2; route = s.1; gives = by.1; pref = refl; numbers = refl })
      ]

  loose : (r : ℕ) (t : FullRoute) (rest : List ℕ) → is_router net r ≡ true → full_at full r ≡ Some t → IsTrail Member (r ∷ rest) → is_loop_free (r ∷ rest) ≡ true
  loose r t rest router at w = ways.free Member (is_up net policy f p) Stands positive falls one rest r (whole t) w (inl (router, t, at, refl))

  inner_way : (path : List ℕ) → IsWay Member (is_up net policy f p) path → IsWay (IsTied net policy config Mute p (inside full)) (is_up net policy Mute p) path
  inner_way path w = way_map Member (IsTied net policy config Mute p (inside full)) (is_up net policy f p) (is_up net policy Mute p) as_tied (λ l e. e) path w

  -- ---- whole lengths

  -- what a peer sends is what it announces
  told_by : (u z : ℕ) (m : Sent) → is_peer net z ≡ true → sent_under net config f says p full z u ≡ Some m → (a : Announced) × (says z u ≡ Some a) × (m.behind ≡ a.behind)
  told_by u z m peer h = elim (cases_Bool (is_silent f u z)) [
    | inl s ↦ (let none : sent_under net config f says p full z u ≡ None = rw (peer, s) refl in absurd (none_or_some (sent_under net config f says p full z u) m none h))
    | inr s ↦ elim (cases_Option (says z u)) [
      | inl nothing ↦ (let none : sent_under net config f says p full z u ≡ None = rw (peer, s, nothing) refl in absurd (none_or_some (sent_under net config f says p full z u) m none h))
      | inr a ↦
          let sends : Sent = record { path = z ∷ []; behind = a.0.behind; tag = a.0.tag } in
          let made : sent_under net config f says p full z u ≡ Some sends = rw (peer, s, a.1) refl in
          let same : sends ≡ m = same_Some sends m (sym made ∙ h) in
          (a.0, a.1, ap (λ (x : Sent). x.behind) (sym same))
    ]
  ]

  -- from a peer nothing goes on
  peer_last : (z : ℕ) (rest : List ℕ) → is_peer net z ≡ true → IsWay Member (is_up net policy f p) (z ∷ rest) → rest ≡ []
  peer_last z [] peer w = refl
  peer_last z (k ∷ ks) peer w = absurd (true≢false (sym (and_parts _ _ w.0.at_router).0 ∙ peer_no_router net z peer))

  same_end : (v z : ℕ) (rest : List ℕ) → is_router net z ≡ true → behind_end net says (v ∷ z ∷ rest) ≡ behind_end net says (z ∷ rest)
  same_end v z [] router = rw (router_no_peer net z router) refl
  same_end v z (k ∷ ks) router = refl

  exact : (rest : List ℕ) (v : ℕ) (t : FullRoute) → is_router net v ≡ true → full_at full v ≡ Some t → IsWay Member (is_up net policy f p) (v ∷ rest)
      → length (v ∷ rest) + behind_end net says (v ∷ rest) ≡ whole t
  exact [] v t router at w =
      let parts = and_parts (is_origin net policy p v) (not (is_dead f v)) w in
      let own : FullRoute = record { route = own_route net config p v; behind = [] } in
      let who = and_from (is_router net v && is_origin net policy p v) (not (is_dead f v)) (and_from (is_router net v) (is_origin net policy p v) router parts.0) parts.1 in
      let same : own ≡ t = same_Some own t (sym (stable.own v who) ∙ at) in
      ap (λ (a : FullRoute). whole a) same
  exact (z ∷ rest) v t router at w =
      let m = w.0 in
      let d = falls v z (whole t) m (inl (router, t, at, refl)) in
      onwards (λ s there held. exact rest z s there held w.1) d.0 d.1 d.2
    where
      last_hop : (k : ℕ) → is_peer net z ≡ true → rest ≡ [] → length (v ∷ z ∷ rest) + behind_end net says (v ∷ z ∷ rest) ≡ whole t
      last_hop k peer none =
          let x = given-parts net policy config f says p full z v w.0.route w.0.gives in
          let made = taken-parts net config x.1 v z x.3 w.0.route x.5 in
          let a = told_by v z x.3 peer x.4 in
          let y = given_parts net policy config Mute p (inside full) rules z v w.0.route.route (gift z v w.0.route router w.0.gives) in
          let own : w.0.own ≡ t = same_Some w.0.own t (sym w.0.held ∙ at) in
          let equal : whole w.0.own ≡ whole t = ap (λ (b : FullRoute). whole b) own in
          let front : length w.0.route.route.path ≡ suc (length y.path) = ap length y.begins in
          let single : length y.path ≡ 1 = one_place y.path y.comes in
          let back : length w.0.route.behind ≡ length a.0.behind = ap length (made.2 ∙ a.2) in
          let ends : behind_end net says (v ∷ z ∷ []) ≡ length a.0.behind = rw (peer, a.1) refl in
          let all : length (v ∷ z ∷ []) + behind_end net says (v ∷ z ∷ []) ≡ whole t = omega (arith, equal, front, single, back, ends, w.0.numbers) in
          subst (λ (q : List ℕ). length (v ∷ z ∷ q) + behind_end net says (v ∷ z ∷ q) ≡ whole t) (sym none) all
        where
          one_place : (path : List ℕ) → Comes net policy config Mute p (inside full) rules z v path → length path ≡ 1
          one_place path (inl from) = ap length from.3
          one_place path (inr from) = absurd (true≢false (sym from.0 ∙ peer_no_router net z peer))

      onwards : ((s : FullRoute) → is_router net z ≡ true → full_at full z ≡ Some s → length (z ∷ rest) + behind_end net says (z ∷ rest) ≡ whole s)
          → (k : ℕ) → whole t ≡ suc k → Stands z k → length (v ∷ z ∷ rest) + behind_end net says (v ∷ z ∷ rest) ≡ whole t
      onwards again k count (inl s) =
          let more = again s.1 s.0 s.2 in
          let ends = same_end v z rest s.0 in
          omega (arith, count, s.3, more, ends)
      onwards again k count (inr s) = last_hop k s.0 (peer_last z rest s.0 w.1)

  pub arrives : (r : ℕ) (t : FullRoute) → is_router net r ≡ true → full_at full r ≡ Some t → ArriveUnder net policy config f says p full r t
  arrives r t router at =
      let here : Stands r (whole t) = inl (router, t, at, refl) in
      record {
        onward = λ rest w. ways.onward Member (is_up net policy f p) Stands positive falls one (λ l. true) (λ u z m on. refl) goes rest r (whole t) w here refl;
        free = λ rest w. loose r t rest router at w;
        bound = λ rest w. ways.bound Member (is_up net policy f p) Stands positive falls one rest r (whole t) w here;
        long = λ rest w. exact rest r t router at w;
        lives = λ rest w. survives-alive net Mute (r ∷ rest) (way_alive net policy config Mute p (inside full) rules (r ∷ rest) (inner_way (r ∷ rest) w));
      }

  -- ---- they are right

  -- who holds a route inside holds one
  holds_full : (r : ℕ) (h : Route) → route_at (inside full) r ≡ Some h → (t : FullRoute) × (full_at full r ≡ Some t)
  holds_full r h at = let t = option_map_parts route_in (full_at full r) h (sym (route_at-inside full r) ∙ at) in (t.0, t.1)

  pub right : (s : PlainStatement) → statement_of policy p ≡ Some s → length full ≡ length net.routers
      → AreRightSpreadsUnder net policy config f says p s full
  right s governs size =
      let plain : AreRightWays net policy config Mute p s (inside full) (IsTied net policy config Mute p (inside full)) =
      tied_ways net policy config cs rules kept passes p Mute (inside full) prefix inner s governs (length-map full (option_map (λ (t : FullRoute). t.route)) ∙ size) in
      let told : (r peer : ℕ) (m : Sent) → offered_under net config f says p full r peer ≡ Some m → offered net policy config Mute p (inside full) r peer ≡ Some (peer ∷ m.path) =
      λ r peer m at. offers_are_taken net policy config cs rules kept passes.made p f says full prefix stable r peer ∙ ap (option_map (λ (x : Sent). peer ∷ x.path)) at in
      let free : (r peer : ℕ) (m : Sent) (rest : List ℕ) → offered_under net config f says p full r peer ≡ Some m → IsWay Member (is_up net policy f p) (r ∷ rest) → is_loop_free (r ∷ rest) ≡ true =
      λ r peer m rest at w. (
      let o = offer_parts net policy config Mute p (inside full) rules r peer (peer ∷ m.path) (told r peer m at) in
      let t = holds_full r o.route o.held in
      loose r t.0 rest o.router t.1 (way_trail Member (is_up net policy f p) r rest w)) in
      record {
        used = λ r t rest claimed at w. plain.used r t.route rest claimed (held_inside r t at) (inner_way (r ∷ rest) w) (loose r t rest claimed.at_router at (way_trail Member (is_up net policy f p) r rest w));
        offers = λ r peer m rest at w. plain.offers r peer (peer ∷ m.path) rest (told r peer m at) (inner_way (r ∷ rest) w) (free r peer m rest at w);
        sessions = λ r peer m rest claimed at w. plain.sessions r peer (peer ∷ m.path) rest claimed (told r peer m at) (inner_way (r ∷ rest) w) (free r peer m rest at w);
        transit = λ r t rest who at w. plain.transit r t.route rest who (held_inside r t at) (inner_way (r ∷ rest) w);
      }

pub spread_packets_arrive_under : SpreadPacketsArriveUnder
spread_packets_arrive_under net policy config cs rules kept passes p f says full prefix stable r t router at =
    arrives net policy config cs rules kept passes p f says full prefix stable r t router at

pub spreads_are_right_under : SpreadsAreRightUnder
spreads_are_right_under net policy config cs rules kept passes p f says full s prefix governs size stable =
    right net policy config cs rules kept passes p f says full prefix stable s governs size
