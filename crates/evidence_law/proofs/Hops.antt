-- What a router holds in a stable outcome comes from a neighbour over a live link, which holds the rest of the path.
use Rattle.std.proofs.Common.{◌≡◌, ℕ, true, false, List, [], ◌∷◌, Some, None, refl, sym, ap, ◌∙◌, inl, inr, subst}
use Rattle.std.specs.Prelude.{◌&&◌, ◌==◌, ◌⊎◌, not, option_and_then, if◌then◌else◌}
use Rattle.std.specs.List.{list_any}
use Rattle.std.proofs.lemmas.Bool.{and_from, and_parts, cases_Bool, not-true, not_from_false, eqb-true, false_from_ne_true, or_from, true≢false}
use Rattle.net_base.specs.declared.numbers.Tag.{Tag}
use Rattle.net_base.specs.Network.{PlainNet, IsNet, is_peer, is_router, linked, asn_of}
use Rattle.net_base.specs.Numbers.{no_tag}
use Rattle.net_base.specs.Prefixes.{PlainPrefix}
use Rattle.net_base.proofs.Links.{any_flips, linked_flips, linked_known}
use Rattle.net_base.proofs.RoutersAndPeers.{peer_no_router, router_known, router_no_peer, router_or_peer}
use Rattle.policy_base.specs.Policies.{PlainPolicy}
use Rattle.policy_base.specs.Governing.{is_origin}
use Rattle.config_base.specs.declared.route.Route.{Route}
use Rattle.config_base.specs.Configs.{PlainConfig}
use Rattle.config_base.specs.Lines.{as_path, class_of, export_of, import_of, is_looped, line_by, block_at, own_route}
use Rattle.outcome_base.specs.Outcomes.{Failures, Outcome, is_dead, is_dead_link, is_live, is_silent, offered, route_at, sent, given, IsStable}
use Rattle.outcome_base.specs.Right.{IsPassedOn}
use Rattle.list_law.proofs.Options.{cases_Option, none_or_some, unless_parts}
use Rattle.evidence_law.proofs.Heard.{no_gift, given-refused, given-taken, given-unsent, sent-permitted, sent-refused, sent-unrouted}
use Rattle.evidence_law.proofs.Loops.{loop_by_number}

-- a live link has no direction
pub live_flips : (net : PlainNet) (f : Failures) (a b : ℕ) → is_live net f a b ≡ true → is_live net f b a ≡ true
live_flips net f a b h =
    let last = and_parts (linked net a b && not (is_dead_link f a b) && not (is_dead f a)) (not (is_dead f b)) h in
    let more = and_parts (linked net a b && not (is_dead_link f a b)) (not (is_dead f a)) last.0 in
    let first = and_parts (linked net a b) (not (is_dead_link f a b)) more.0 in
    let link = and_from (linked net b a) (not (is_dead_link f b a)) (linked_flips net b a ∙ first.0) (ap not (any_flips b a f.dead_links) ∙ first.1) in
    and_from (linked net b a && not (is_dead_link f b a) && not (is_dead f b)) (not (is_dead f a)) (and_from (linked net b a && not (is_dead_link f b a)) (not (is_dead f b)) link last.1) more.1

module _ (net : PlainNet) (policy : PlainPolicy) (config : PlainConfig) (f : Failures) (p : PlainPrefix) (outcome : Outcome) (rules : IsNet net) where
  abbrev pub Holds : ℕ → List ℕ → Type 0
  Holds u path = (g : Route) × (route_at outcome u ≡ Some g) × (g.path ≡ path)

  -- how a path comes to r from z: a peer announces itself, or a router holds it
  abbrev pub Comes : ℕ → ℕ → List ℕ → Type 0
  Comes z r path =
      ((is_peer net z ≡ true) × (is_origin net policy p z ≡ true) × (is_silent f r z ≡ false) × (path ≡ z ∷ []))
      ⊎ ((is_router net z ≡ true) × Holds z path)

  live_router : (z r : ℕ) → is_live net f z r ≡ true → is_peer net z ≡ false → is_router net z ≡ true
  live_router z r live off = router_or_peer net z (linked_known net z r rules (and_parts _ _ (and_parts _ _ (and_parts _ _ live).0).0).0).0 off

  same_sent : (s t : List ℕ × Tag) → Some s ≡ Some t → s.0 ≡ t.0
  same_sent s t h = cc

  -- what is sent
  pub sent_comes : (class : ℕ) → class_of config p ≡ Some class → (z r : ℕ) (s : List ℕ × Tag) → is_live net f z r ≡ true → sent net policy config f p outcome z r ≡ Some s → Comes z r s.0
  sent_comes class of_class z r s live h = elim (cases_Bool (is_peer net z)) [
    | inl peer ↦ elim (cases_Bool (is_origin net policy p z && not (is_silent f r z))) [
      | inl t ↦
          let parts = and_parts (is_origin net policy p z) (not (is_silent f r z)) t in
          let out : sent net policy config f p outcome z r ≡ Some (z ∷ [], no_tag) = rw (peer, t) refl in
          inl (peer, parts.0, not-true _ parts.1, same_sent s (z ∷ [], no_tag) (sym h ∙ out))
      | inr t ↦
          let out : sent net policy config f p outcome z r ≡ None = rw (peer, t) refl in
          absurd (none_or_some (sent net policy config f p outcome z r) s out h)
    ]
    | inr off ↦ elim (cases_Option (route_at outcome z)) [
      | inl none ↦ absurd (none_or_some (sent net policy config f p outcome z r) s (sent-unrouted net policy config f p outcome class rules of_class z r off none) h)
      | inr g ↦ elim (cases_Option (export_of net config class z r g.0.tag)) [
        | inl none ↦ absurd (none_or_some (sent net policy config f p outcome z r) s (sent-refused net policy config f p outcome class rules of_class z r g.0 off g.1 none) h)
        | inr t ↦ inr (live_router z r live off, (g.0, g.1, same_sent (g.0.path, t.0) s (sym (sent-permitted net policy config f p outcome class rules of_class z r g.0 t.0 off g.1 t.1) ∙ h)))
      ]
    ]
  ]

  -- a router sends the path of its route
  sent_path : (z r : ℕ) (s : List ℕ × Tag) → is_router net z ≡ true → is_live net f z r ≡ true → sent net policy config f p outcome z r ≡ Some s → Holds z s.0
  sent_path z r s router live h = elim (cases_Option (class_of config p)) [
    | inl free ↦
        let none : sent net policy config f p outcome z r ≡ None = rw (free, router_no_peer net z router) refl in
        absurd (none_or_some (sent net policy config f p outcome z r) s none h)
    | inr class ↦ elim (sent_comes class.0 class.1 z r s live h) [
      | inl peer ↦ absurd (true≢false (sym peer.0 ∙ router_no_peer net z router))
      | inr from ↦ from.1
    ]
  ]

  -- what a peer is offered: over a live link, the path of the router's route, and not where the peer stands on it
  pub record IsOffer (r peer : ℕ) (path : List ℕ) : Type 0 where
    pub live : is_live net f r peer ≡ true
    pub router : is_router net r ≡ true
    pub peer_there : is_peer net peer ≡ true
    pub route : Route
    pub held : route_at outcome r ≡ Some route
    pub off : list_any (λ l. l == peer) route.path ≡ false
    pub is : path ≡ peer ∷ route.path

  same_offer : (path rest : List ℕ) (peer : ℕ) → Some (peer ∷ rest) ≡ Some path → path ≡ peer ∷ rest
  same_offer path rest peer h = cc

  pub offer_parts : (r peer : ℕ) (path : List ℕ) → offered net policy config f p outcome r peer ≡ Some path → IsOffer r peer path
  offer_parts r peer path h = elim (cases_Bool (is_live net f r peer && is_router net r && is_peer net peer)) [
    | inr t ↦ (let none : offered net policy config f p outcome r peer ≡ None = rw t refl in absurd (none_or_some (offered net policy config f p outcome r peer) path none h))
    | inl t ↦
        let ends = and_parts (is_live net f r peer && is_router net r) (is_peer net peer) t in
        let who = and_parts (is_live net f r peer) (is_router net r) ends.0 in
        elim (cases_Option (sent net policy config f p outcome r peer)) [
          | inl none ↦ (let no : offered net policy config f p outcome r peer ≡ None = rw (none, t) refl in absurd (none_or_some (offered net policy config f p outcome r peer) path no h))
          | inr s ↦
              let made : offered net policy config f p outcome r peer ≡ (if list_any (λ l. l == peer) s.0.0 then None else Some (peer ∷ s.0.0)) = rw (s.1, t) refl in
              let parts = unless_parts (list_any (λ l. l == peer) s.0.0) (Some (peer ∷ s.0.0)) path (sym made ∙ h) in
              let from = sent_path r peer s.0 who.1 who.0 s.1 in
              record {
                live = who.0;
                router = who.1;
                peer_there = ends.1;
                route = from.0;
                held = from.1;
                off = ap (list_any (λ l. l == peer)) from.2 ∙ parts.0;
                is = same_offer path s.0.0 peer parts.1 ∙ ap (λ (q : List ℕ). peer ∷ q) (sym from.2);
              }
        ]
  ]

  -- what is given: over a live link, and not where the taker stands on the path
  pub record IsGiven (z r : ℕ) (h : Route) : Type 0 where
    pub path : List ℕ
    pub begins : h.path ≡ r ∷ path
    pub live : is_live net f z r ≡ true
    pub comes : Comes z r path
    pub unlooped : is_looped net r z path ≡ false

  same_path : (g h : Route) → Some g ≡ Some h → h.path ≡ g.path
  same_path g h e = cc

  taken : (class : ℕ) → class_of config p ≡ Some class → (z r : ℕ) (h : Route) (s : List ℕ × Tag) (q : Tag × ℕ) → is_live net f z r ≡ true → sent net policy config f p outcome z r ≡ Some s
      → import_of net config class r z s.0 s.1 ≡ Some q → given net policy config f p outcome z r ≡ Some h → IsGiven z r h
  taken class of_class z r h s q live out takes by =
      let made : Route = record { path = r ∷ s.0; tag = q.0; pref = q.1 } in
      record {
        path = s.0;
        begins = same_path made h (sym (given-taken net policy config f p outcome class rules of_class z r s.0 s.1 q live out takes) ∙ by);
        live = live;
        comes = sent_comes class of_class z r s live out;
        unlooped = (unless_parts (is_looped net r z s.0) (option_and_then (line_by net class z s.1) (block_at net config r z)) q takes).0;
      }

  pub given_parts : (z r : ℕ) (h : Route) → given net policy config f p outcome z r ≡ Some h → IsGiven z r h
  given_parts z r h by = elim (cases_Bool (is_live net f z r)) [
    | inr off ↦ (let none : given net policy config f p outcome z r ≡ None = rw off refl in absurd (none_or_some (given net policy config f p outcome z r) h none by))
    | inl live ↦ elim (cases_Option (class_of config p)) [
      | inl free ↦ absurd (none_or_some (given net policy config f p outcome z r) h (no_gift net policy config f p outcome free z r) by)
      | inr class ↦ elim (cases_Option (sent net policy config f p outcome z r)) [
        | inl none ↦ absurd (none_or_some (given net policy config f p outcome z r) h (given-unsent net policy config f p outcome class.0 rules class.1 z r live none) by)
        | inr s ↦ elim (cases_Option (import_of net config class.0 r z s.0.0 s.0.1)) [
          | inl none ↦ absurd (none_or_some (given net policy config f p outcome z r) h (given-refused net policy config f p outcome class.0 rules class.1 z r s.0.0 s.0.1 live s.1 none) by)
          | inr q ↦ taken class.0 class.1 z r h s.0 q.0 live s.1 q.1 by
        ]
      ]
    ]
  ]

  -- ---- a stable outcome

  module _ (stable : IsStable net policy config f p outcome) where
    pub lives : (r : ℕ) (h : Route) → route_at outcome r ≡ Some h → is_dead f r ≡ false
    lives r h at = false_from_ne_true (is_dead f r) (λ dead. none_or_some (route_at outcome r) h (stable.dead r dead) at)

    pub own_path : (r : ℕ) (h : Route) → is_router net r ≡ true → is_origin net policy p r ≡ true → route_at outcome r ≡ Some h → h.path ≡ r ∷ []
    own_path r h router own at =
        let who = and_from (is_router net r && is_origin net policy p r) (not (is_dead f r)) (and_from (is_router net r) (is_origin net policy p r) router own) (not_from_false _ (lives r h at)) in
        same_path (own_route net config p r) h (sym (stable.own r who) ∙ at)

    pub chosen : (r : ℕ) (h : Route) → is_router net r ≡ true → is_origin net policy p r ≡ false → route_at outcome r ≡ Some h → (z : ℕ) × IsGiven z r h
    chosen r h router other at =
        let who =
        and_from (is_router net r && not (is_origin net policy p r)) (not (is_dead f r))
        (and_from (is_router net r) (not (is_origin net policy p r)) router (not_from_false _ other)) (not_from_false _ (lives r h at)) in
        let by = (stable.chooses r who).given_by h at in
        (by.0, given_parts by.0 r h by.1)

    -- a route's path begins with its router
    pub begins : (r : ℕ) (h : Route) → is_router net r ≡ true → route_at outcome r ≡ Some h → (rest : List ℕ) × (h.path ≡ r ∷ rest)
    begins r h router at = elim (cases_Bool (is_origin net policy p r)) [
      | inl own ↦ ([], own_path r h router own at)
      | inr other ↦ (let x = chosen r h router other at in (x.1.path, x.1.begins))
    ]

    -- what comes from z begins with z
    pub comes_begins : (z r : ℕ) (path : List ℕ) → Comes z r path → (rest : List ℕ) × (path ≡ z ∷ rest)
    comes_begins z r path (inl peer) = ([], peer.3)
    comes_begins z r path (inr router) = (let x = begins z router.1.0 router.0 router.1.1 in (x.0, sym router.1.2 ∙ x.1))

    -- the taker doesn't stand on what it takes
    pub apart : (z r : ℕ) (path : List ℕ) → is_router net r ≡ true → Comes z r path → is_looped net r z path ≡ false → list_any (λ l. l == r) path ≡ false
    apart z r path router (inl peer) free =
        let other : (z == r) ≡ false = false_from_ne_true (z == r) (λ same. true≢false (sym router ∙ ap (is_router net) (sym (eqb-true z r same)) ∙ peer_no_router net z peer.0)) in
        subst (λ (q : List ℕ). list_any (λ l. l == r) q ≡ false) (sym peer.3) (or_from (z == r) false other refl)
    apart z r path router (inr from) free =
        let looped : is_looped net r z path ≡ list_any (λ n. n == asn_of net r) (as_path net path) = rw (router_no_peer net z from.0) refl in
        sym (loop_by_number net r path rules (router_known net r router)) ∙ sym looped ∙ free

    -- packets are passed on along the path of a router that isn't an origin
    pub passed_on : (r : ℕ) (h : Route) → (is_router net r && not (is_origin net policy p r)) ≡ true → route_at outcome r ≡ Some h → IsPassedOn net policy f p outcome r h.path
    passed_on r h who at =
        let parts = and_parts (is_router net r) (not (is_origin net policy p r)) who in
        let x = chosen r h parts.0 (not-true _ parts.1) at in
        let y = comes_begins x.0 r x.1.path x.1.comes in
        let comes : Comes x.0 r (x.0 ∷ y.0) = subst (Comes x.0 r) y.1 x.1.comes in
        record {
          next = x.0;
          rest = y.0;
          begins = x.1.begins ∙ ap (λ (q : List ℕ). r ∷ q) y.1;
          live = live_flips net f x.0 r x.1.live;
          router = λ router. by_router x.0 r (x.0 ∷ y.0) router comes;
          peer = λ peer. by_peer x.0 r y.0 peer comes;
        }
      where
        tails : (z : ℕ) (rest : List ℕ) → z ∷ rest ≡ z ∷ [] → rest ≡ []
        tails z rest h = cc

        by_router : (z r : ℕ) (path : List ℕ) → is_router net z ≡ true → Comes z r path → Holds z path
        by_router z r path router (inl peer) = absurd (true≢false (sym router ∙ peer_no_router net z peer.0))
        by_router z r path router (inr from) = from.1

        by_peer : (z r : ℕ) (rest : List ℕ) → is_peer net z ≡ true → Comes z r (z ∷ rest) → ((is_origin net policy p z && not (is_silent f r z)) ≡ true) × (rest ≡ [])
        by_peer z r rest peer (inl by) = (and_from (is_origin net policy p z) (not (is_silent f r z)) by.1 (not_from_false _ by.2), tails z rest by.3)
        by_peer z r rest peer (inr from) = absurd (true≢false (sym peer ∙ router_no_peer net z from.0))
