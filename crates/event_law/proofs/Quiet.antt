-- A quiet world is settled.
use Rattle.std.proofs.Common.{◌≡◌, ℕ, ◌≤◌, Bool, true, false, not, ◌&&◌, List, [], ◌∷◌, Option, Some, None, refl, sym, ap, ◌∙◌, subst, inl, inr}
use Rattle.std.specs.Prelude.{option_map, ◌==◌, slice_get, zero, suc, if◌then◌else◌}
use Rattle.std.specs.Option.{option_and_then}
use Rattle.std.proofs.lemmas.Bool.{and_from, and_left, and_parts, and_right, cases_Bool, cond-true, cond-false, eq-eqb, eqb-true, not-true, not_from_true, or_left, or_right}
use Rattle.std.specs.Str.{bytes_eq}
use Rattle.std.proofs.lemmas.Slice.Eq.{bytes_eq-Decides}
use Rattle.std.proofs.Math.Bool.{and_assoc}
use Rattle.net_base.specs.Network.{PlainNet, IsNet, is_peer, is_router, linked, id_of}
use Rattle.net_base.specs.Numbers.{no_tag}
use Rattle.net_base.specs.Prefixes.{PlainPrefix}
use Rattle.policy_base.specs.Policies.{PlainPolicy}
use Rattle.policy_base.specs.Governing.{is_origin}
use Rattle.net_base.specs.Locations.{neighbours}
use Rattle.config_base.specs.declared.route.Route.{Route}
use Rattle.config_base.specs.Configs.{PlainConfig}
use Rattle.config_base.specs.Lines.{class_of, export_of, import_of, own_route, same_tag}
use Rattle.config_base.proofs.SameTags.{same_tag-is}
use Rattle.net_base.proofs.Neighbours.{linked_neighbour}
use Rattle.outcome_base.specs.Outcomes.{Failures, Outcome, Chooses, is_dead, is_dead_link, is_live, is_silent, route_at, sent, given}
use Rattle.evidence_law.proofs.Existence.{held, held_none, outcome_of}
use Rattle.evidence_law.proofs.Heard.{given-refused, given-taken, given-unsent, sent-permitted, sent-refused, sent-unrouted, no_gift}
use Rattle.net_base.proofs.RoutersAndPeers.{peer_no_router, router_or_peer}
use Rattle.net_base.proofs.Links.{linked_flips, linked_known}
use Rattle.list_law.proofs.Options.{cases_Option, option_and_then_parts, option_map_parts, option_and_then-never}
use Rattle.event_base.specs.declared.event.Event.{Event}
use Rattle.event_law.specs.Kinds.{AreKinds, Held, IsKind}
use Rattle.event_base.specs.World.{Speakers, World, exported, live}
use Rattle.event_law.specs.Kept as event
use Rattle.event_base.specs.Steps.{IsQuiet, opening, run}
use Rattle.event_law.specs.Kept.{AreSpeakers, IsKept, among}
use Rattle.event_law.proofs.Keeping.{opening-keeps, quiet_stable, run-keeps}
use Rattle.event_law.proofs.KindsKept.{opening-kinds, run-kinds}
use Rattle.routing_law.specs.Network.{giver}
use Rattle.settled_law.specs.Settled.{IsFullyStable, IsNoLater}
use Rattle.event_law.specs.Scenarios.{IsScenarioOf}
use Rattle.event_base.specs.Speaking.{announced_by, chosen_by, exported_by, extended, first_of, message, same_message, speakers_of, taken_by}
use Rattle.event_law.proofs.First.{NoLater, first_covers}
use Rattle.event_law.proofs.Running.{first_is_given}

assoc : (l a b c : Bool) → (((l && a) && b) && c) ≡ (l && (a && (b && c)))
assoc true a b c = and_assoc a b c
assoc false a b c = refl

-- nothing comes of nothing
-- ---- who holds and who sends

-- a path begins with r
abbrev pub BeginsWith : ℕ → Route → Type 0
BeginsWith r h = (rest : List ℕ) × (h.path ≡ r ∷ rest)

module _ (net : PlainNet) (policy : PlainPolicy) (config : PlainConfig) (p : PlainPrefix) where
  begins_exported : (a b : ℕ) (m : Option Route) → is_router net a ≡ true → Held (BeginsWith a) m → Held (BeginsWith a) (exported_by net config p a b m)
  begins_exported a b m router before y e =
      let k = option_and_then_parts (λ (k : ℕ). option_and_then (λ (h : Route). option_map (message h) (export_of net config k a b h.tag)) m) (class_of config p) y e in
      let h = option_and_then_parts (λ (h : Route). option_map (message h) (export_of net config k.0 a b h.tag)) m y k.2 in
      let t = option_map_parts (message h.0) (export_of net config k.0 a b h.0.tag) y h.2 in
      let b = before h.0 h.1 in
      (b.0, ap (λ (z : Route). z.path) (sym t.2) ∙ b.1)

  begins_announced : (a b : ℕ) → is_router net a ≡ false → Held (BeginsWith a) (announced_by net policy p a)
  begins_announced a b off y e = elim (cases_Bool (is_origin net policy p a)) [
    | inl origin ↦ (
        let is : Some (record { path = a ∷ []; tag = no_tag; pref = 0 }) ≡ Some y =
        sym (cond-true (is_origin net policy p a) (Some (record { path = a ∷ []; tag = no_tag; pref = 0 })) None origin) ∙ e in
        let same : record { path = a ∷ []; tag = no_tag; pref = 0 } ≡ y = cc in
        ([], ap (λ (z : Route). z.path) (sym same)))
    | inr other ↦ (let none : None ≡ Some y = sym (cond-false (is_origin net policy p a) (Some (record { path = a ∷ []; tag = no_tag; pref = 0 })) None other) ∙ e in absurd (cc))
  ]

  begins_chosen : (r : ℕ) (offer : ℕ → Option Route) → is_router net r ≡ true → ((u : ℕ) → Held (BeginsWith u) (offer u)) → Held (BeginsWith r) (chosen_by net policy config p r offer)
  begins_chosen r offer router before y e = elim (cases_Bool (is_origin net policy p r)) [
    | inl origin ↦ (
        let is : Some (own_route net config p r) ≡ Some y = sym (cond-true (is_origin net policy p r) (Some (own_route net config p r))
        (option_map (λ (x : ℕ × Route). x.1) (first_of net gives (neighbours net r))) origin) ∙ e in
        let same : own_route net config p r ≡ y = cc in
        ([], ap (λ (z : Route). z.path) (sym same)))
    | inr other ↦ (
        let is : option_map (λ (x : ℕ × Route). x.1) (first_of net gives (neighbours net r)) ≡ Some y =
        sym (cond-false (is_origin net policy p r) (Some (own_route net config p r)) (option_map (λ (x : ℕ × Route). x.1) (first_of net gives (neighbours net r))) other) ∙ e in
        let x = option_map_parts (λ (x : ℕ × Route). x.1) (first_of net gives (neighbours net r)) y is in
        let by = first_is_given net gives (neighbours net r) x.0 x.1 in
        let k =
        option_and_then_parts
        (λ (k : ℕ). option_and_then (λ (m : Route). option_map (extended r m) (import_of net config k r x.0.0 m.path m.tag)) (offer x.0.0))
        (class_of config p) x.0.1 by in
        let m = option_and_then_parts (λ (m : Route). option_map (extended r m) (import_of net config k.0 r x.0.0 m.path m.tag)) (offer x.0.0) x.0.1 k.2 in
        let q = option_map_parts (extended r m.0) (import_of net config k.0 r x.0.0 m.0.path m.0.tag) x.0.1 m.2 in
        (m.0.path, ap (λ (z : Route). z.path) (sym (q.2 ∙ x.2))))
  ]
    where
      gives : ℕ → Option Route
      gives u = taken_by net config p r u (offer u)

  begins : IsKind (speakers_of net policy config p) BeginsWith (λ a b. BeginsWith a)
  begins = record { exports = begins_exported; announces = begins_announced; chooses = begins_chosen }

  -- ---- these are speakers

  among_at : (us : List ℕ) (i u : ℕ) → slice_get us i ≡ Some u → among us u ≡ true
  among_at [] i u h = absurd (cc)
  among_at (v ∷ us) zero u h = or_left (u == v) (among us u) (eq-eqb u v (let same : v ≡ u = cc in sym same))
  among_at (v ∷ us) (suc i) u h = or_right (u == v) (among us u) (among_at us i u h)

  one_message : (a b : Option Route) → same_message a b ≡ true → a ≡ b
  one_message None None h = refl
  one_message None (Some h') h = absurd (cc)
  one_message (Some g) None h = absurd (cc)
  one_message (Some g) (Some k) h =
      let first = and_parts (bytes_eq g.path k.path) (same_tag g.tag k.tag && g.pref == k.pref) h in
      let last = and_parts (same_tag g.tag k.tag) (g.pref == k.pref) first.1 in
      let path : g.path ≡ k.path = (bytes_eq-Decides g.path k.path).0 first.0 in
      let tag = same_tag-is g.tag k.tag last.0 in
      let pref = eqb-true g.pref k.pref last.1 in
      λ i. Some (record { path = path i; tag = tag i; pref = pref i })

  pub are_speakers : IsNet net → AreSpeakers (speakers_of net policy config p)
  are_speakers rules = record {
    near = λ r u h. (let at = linked_neighbour net r u rules h in among_at (neighbours net r) at.0 u at.1);
    apart = one_message;
  }

module _ (net : PlainNet) (policy : PlainPolicy) (config : PlainConfig) (p : PlainPrefix) (rules : IsNet net)
    (speak : AreSpeakers (speakers_of net policy config p)) (w : World Route) (f : Failures) (scenario : IsScenarioOf net w f) where
  abbrev S : Speakers Route
  S = speakers_of net policy config p

  abbrev outcome : Outcome
  outcome = outcome_of net w.route

  pub live_same : (a b : ℕ) → is_live net f a b ≡ live S w a b
  live_same a b = assoc (linked net a b) (not (is_dead_link f a b)) (not (is_dead f a)) (not (is_dead f b)) ∙ elim (cases_Bool (linked net a b)) [
    | inl t ↦ ap (λ z. linked net a b && (not z && (not (is_dead f a) && not (is_dead f b)))) (scenario.links a b t)
        ∙ ap (λ z. linked net a b && (not (w.cut a b) && (not z && not (is_dead f b)))) (scenario.dead a)
        ∙ ap (λ z. linked net a b && (not (w.cut a b) && (not (w.down a) && not z))) (scenario.dead b)
    | inr off ↦ and_left _ _ off ∙ sym (and_left _ _ off)
  ]

  linked_live : (a b : ℕ) → live S w a b ≡ true → linked net a b ≡ true
  linked_live a b h = (and_parts (linked net a b) _ h).0

  -- what is given at rest, by what the sender has
  module _ (class : ℕ) (of_class : class_of config p ≡ Some class) (r u : ℕ) (on : live S w u r ≡ true) where
    lives : is_live net f u r ≡ true
    lives = live_same u r ∙ on

    taken : (m : Route) → taken_by net config p r u (Some m) ≡ option_map (extended r m) (import_of net config class r u m.path m.tag)
    taken m = ap (option_and_then (λ (k : ℕ). option_map (extended r m) (import_of net config k r u m.path m.tag))) of_class

    untaken : taken_by net config p r u None ≡ None
    untaken = option_and_then-never (λ (k : ℕ). option_and_then (λ (m : Route). option_map (extended r m) (import_of net config k r u m.path m.tag)) None) (class_of config p) (λ k. refl)

    sent_taken : (m : Route) → sent net policy config f p outcome u r ≡ Some (m.path, m.tag) → taken_by net config p r u (Some m) ≡ given net policy config f p outcome u r
    sent_taken m s = taken m ∙ elim (cases_Option (import_of net config class r u m.path m.tag)) [
      | inl none ↦ ap (option_map (extended r m)) none ∙ sym (given-refused net policy config f p outcome class rules of_class u r m.path m.tag lives s none)
      | inr line ↦ ap (option_map (extended r m)) line.1 ∙ sym (given-taken net policy config f p outcome class rules of_class u r m.path m.tag line.0 lives s line.1)
    ]

    unsent : sent net policy config f p outcome u r ≡ None → taken_by net config p r u None ≡ given net policy config f p outcome u r
    unsent s = untaken ∙ sym (given-unsent net policy config f p outcome class rules of_class u r lives s)

    from_router : is_peer net u ≡ false → is_router net u ≡ true → taken_by net config p r u (exported_by net config p u r (w.route u)) ≡ given net policy config f p outcome u r
    from_router off router = elim (cases_Option (w.route u)) [
      | inl none ↦
          ap (taken_by net config p r u) (ap (exported_by net config p u r) none
          ∙ option_and_then-never (λ (k : ℕ). option_and_then (λ (h : Route). option_map (message h) (export_of net config k u r h.tag)) None)
          (class_of config p) (λ k. refl))
          ∙ unsent (sent-unrouted net policy config f p outcome class rules of_class u r off (held net w.route u router ∙ none))
      | inr h ↦ elim (cases_Option (export_of net config class u r h.0.tag)) [
        | inl none ↦
            ap (taken_by net config p r u) (exports h.0 h.1 ∙ ap (option_map (message h.0)) none)
            ∙ unsent (sent-refused net policy config f p outcome class rules of_class u r h.0 off (held net w.route u router ∙ h.1) none)
        | inr t ↦ ap (taken_by net config p r u) (exports h.0 h.1 ∙ ap (option_map (message h.0)) t.1)
            ∙ sent_taken (message h.0 t.0) (sent-permitted net policy config f p outcome class rules of_class u r h.0 t.0 off (held net w.route u router ∙ h.1) t.1)
      ]
    ]
      where
        exports : (h : Route) → w.route u ≡ Some h → exported_by net config p u r (w.route u) ≡ option_map (message h) (export_of net config class u r h.tag)
        exports h e = ap (exported_by net config p u r) e ∙ ap (option_and_then (λ (k : ℕ). option_map (message h) (export_of net config k u r h.tag))) of_class

    abbrev announced : Route
    announced = record { path = u ∷ []; tag = no_tag; pref = 0 }

    from_peer : is_peer net u ≡ true → taken_by net config p r u (if w.silent r u then None else announced_by net policy p u) ≡ given net policy config f p outcome u r
    from_peer peer =
        let same : is_silent f r u ≡ w.silent r u = scenario.silent r u (linked_live u r on) in
        elim (cases_Bool (w.silent r u)) [
          | inl mute ↦ ap (taken_by net config p r u) (cond-true (w.silent r u) None (announced_by net policy p u) mute) ∙ unsent (quiet_peer (same ∙ mute))
          | inr heard ↦ ap (taken_by net config p r u) (cond-false (w.silent r u) None (announced_by net policy p u) heard) ∙ elim (cases_Bool (is_origin net policy p u)) [
            | inl origin ↦ ap (taken_by net config p r u) (cond-true (is_origin net policy p u) (Some announced) None origin) ∙ sent_taken announced (rw (peer, same ∙ heard, origin) refl)
            | inr other ↦ ap (taken_by net config p r u) (cond-false (is_origin net policy p u) (Some announced) None other) ∙ unsent (rw (peer, other) refl)
          ]
        ]
      where
        quiet_peer : is_silent f r u ≡ true → sent net policy config f p outcome u r ≡ None
        quiet_peer mute = elim (cases_Bool (is_origin net policy p u)) [
          | inl o ↦ rw (peer, mute, o) refl
          | inr o ↦ rw (peer, mute, o) refl
        ]

    given_live : taken_by net config p r u (exported S w u r) ≡ given net policy config f p outcome u r
    given_live = elim (cases_Bool (is_peer net u)) [
      | inl peer ↦
          ap (taken_by net config p r u) (cond-false (is_router net u) (exported_by net config p u r (w.route u))
          (if w.silent r u then None else announced_by net policy p u) (peer_no_router net u peer)) ∙ from_peer peer
      | inr off ↦ (
          let router = router_or_peer net u (linked_known net u r rules (linked_live u r on)).0 off in
          ap (taken_by net config p r u) (cond-true (is_router net u) (exported_by net config p u r (w.route u))
          (if w.silent r u then None else announced_by net policy p u) router) ∙ from_router off router)
    ]

  -- what a router makes of what a neighbour gives is what the neighbour gives in the outcome
  taken_given : (r u : ℕ) → taken_by net config p r u (event.given S w r u) ≡ given net policy config f p outcome u r
  taken_given r u = elim (cases_Option (class_of config p)) [
    | inl free ↦
        ap (option_and_then (λ (k : ℕ). option_and_then (λ (m : Route). option_map (extended r m) (import_of net config k r u m.path m.tag))
        (event.given S w r u))) free ∙ sym (no_gift net policy config f p outcome free u r)
    | inr class ↦ elim (cases_Bool (live S w u r)) [
      | inl on ↦ ap (taken_by net config p r u) (cond-true (live S w u r) (exported S w u r) None on) ∙ given_live class.0 class.1 r u on
      | inr off ↦
          ap (taken_by net config p r u) (cond-false (live S w u r) (exported S w u r) None off)
          ∙ option_and_then-never
          (λ (k : ℕ). option_and_then (λ (m : Route). option_map (extended r m) (import_of net config k r u m.path m.tag)) None)
          (class_of config p) (λ k. refl) ∙ sym (ungiven r u (live_same u r ∙ off))
    ]
  ]
    where
      ungiven : (r u : ℕ) → is_live net f u r ≡ false → given net policy config f p outcome u r ≡ None
      ungiven r u off = rw off refl

  -- a kept and quiet world, in which routes and messages begin with who holds and sends them
  module _ (kept : IsKept S w) (quiet : IsQuiet w) (begin : AreKinds BeginsWith (λ a b. BeginsWith a) w) where
    abbrev gives : ℕ → ℕ → Option Route
    gives r u = taken_by net config p r u (event.given S w r u)

    alive : (r : ℕ) → not (is_dead f r) ≡ true → not (w.down r) ≡ true
    alive r h = ap not (sym (scenario.dead r)) ∙ h

    choice_is : (r : ℕ) → is_router net r ≡ true → not (is_dead f r) ≡ true → w.route r ≡ chosen_by net policy config p r (event.given S w r)
    choice_is r router lives = quiet_stable S speak w kept quiet r (and_from (is_router net r) (not (w.down r)) router (alive r lives))

    own_held : (r : ℕ) → (is_router net r && is_origin net policy p r && not (is_dead f r)) ≡ true → route_at outcome r ≡ Some (own_route net config p r)
    own_held r h =
        let last = and_parts (is_router net r && is_origin net policy p r) (not (is_dead f r)) h in
        let first = and_parts (is_router net r) (is_origin net policy p r) last.0 in
        held net w.route r first.0 ∙ choice_is r first.0 last.1
        ∙ cond-true (is_origin net policy p r) (Some (own_route net config p r)) (option_map (λ (x : ℕ × Route). x.1) (first_of net (gives r) (neighbours net r))) first.1

    abbrev IsChooser : ℕ → Type 0
    IsChooser r = (is_router net r && not (is_origin net policy p r) && not (is_dead f r)) ≡ true

    picked_route : (r : ℕ) → IsChooser r → route_at outcome r ≡ option_map (λ (x : ℕ × Route). x.1) (first_of net (gives r) (neighbours net r))
    picked_route r h =
        let last = and_parts (is_router net r && not (is_origin net policy p r)) (not (is_dead f r)) h in
        let first = and_parts (is_router net r) (not (is_origin net policy p r)) last.0 in
        held net w.route r first.0 ∙ choice_is r first.0 last.1
        ∙ cond-false (is_origin net policy p r) (Some (own_route net config p r)) (option_map (λ (x : ℕ × Route). x.1) (first_of net (gives r) (neighbours net r))) (not-true _ first.1)

    given_linked : (r z : ℕ) (g : Route) → given net policy config f p outcome z r ≡ Some g → linked net r z ≡ true
    given_linked r z g e = elim (cases_Bool (is_live net f z r)) [
      | inl on ↦ linked_flips net r z ∙ (and_parts (linked net z r) _ (sym (assoc (linked net z r) (not (is_dead_link f z r)) (not (is_dead f z)) (not (is_dead f r))) ∙ on)).0
      | inr off ↦ (let none : None ≡ Some g = sym (rw off refl) ∙ e in absurd (cc))
    ]

    -- the first of all that is given, and by whom
    first_given : (r z : ℕ) (g : Route) → IsChooser r → given net policy config f p outcome z r ≡ Some g
        → (x : ℕ × Route) × (route_at outcome r ≡ Some x.1) × (gives r x.0 ≡ Some x.1) × NoLater net x (z, g)
    first_given r z g who e =
        let mine : gives r z ≡ Some g = taken_given r z ∙ e in
        let x = first_covers net (gives r) (neighbours net r) z (speak.near r z (given_linked r z g e)) g mine in
        (x.0, picked_route r who ∙ ap (option_map (λ (y : ℕ × Route). y.1)) x.1, first_is_given net (gives r) (neighbours net r) x.0 x.1, x.2)

    -- what u gives has u in its second place
    giver_is : (r u : ℕ) (h : Route) → gives r u ≡ Some h → giver h.path ≡ u
    giver_is r u h e =
        let k = option_and_then_parts (λ (k : ℕ). option_and_then (λ (m : Route). option_map (extended r m) (import_of net config k r u m.path m.tag)) (event.given S w r u)) (class_of config p) h e in
        let m = option_and_then_parts (λ (m : Route). option_map (extended r m) (import_of net config k.0 r u m.path m.tag)) (event.given S w r u) h k.2 in
        let q = option_map_parts (extended r m.0) (import_of net config k.0 r u m.0.path m.0.tag) h m.2 in
        let sent = begins_given m.0 m.1 in
        ap (λ (z : Route). giver z.path) (sym q.2) ∙ ap (λ (z : List ℕ). giver (r ∷ z)) sent.1
      where
        begins_given : (m : Route) → event.given S w r u ≡ Some m → BeginsWith u m
        begins_given m e = elim (cases_Bool (live S w u r)) [
          | inl on ↦ begins_sent m (sym (cond-true (live S w u r) (exported S w u r) None on) ∙ e)
          | inr off ↦ (let none : None ≡ Some m = sym (cond-false (live S w u r) (exported S w u r) None off) ∙ e in absurd (cc))
        ]
          where
            begins_sent : (m : Route) → exported S w u r ≡ Some m → BeginsWith u m
            begins_sent m e = elim (cases_Bool (is_router net u)) [
              | inl router ↦
                  begins_kind.exports u r (w.route u) router (begin.route u) m (sym (cond-true (is_router net u)
                  (exported_by net config p u r (w.route u)) (if w.silent r u then None else announced_by net policy p u) router) ∙ e)
              | inr off ↦
                  unsilent (w.silent r u) off (sym (cond-false (is_router net u) (exported_by net config p u r (w.route u))
                  (if w.silent r u then None else announced_by net policy p u) off) ∙ e)
            ]
              where
                begins_kind : IsKind S BeginsWith (λ a b. BeginsWith a)
                begins_kind = begins net policy config p

                unsilent : (b : Bool) → is_router net u ≡ false → (if b then None else announced_by net policy p u) ≡ Some m → BeginsWith u m
                unsilent true off h = absurd (cc)
                unsilent false off h = begins_kind.announces u r off m h

    chooses_first : (r : ℕ) → IsChooser r → Chooses net policy config f p outcome r
    chooses_first r who = record {
      given_by = λ h at.
          let x = option_map_parts (λ (x : ℕ × Route). x.1) (first_of net (gives r) (neighbours net r)) h (sym (picked_route r who) ∙ at) in
          (x.0.0, sym (taken_given r x.0.0) ∙ first_is_given net (gives r) (neighbours net r) x.0 x.1 ∙ ap Some x.2);
      best = λ z g e. (let x = first_given r z g who e in (x.0.1, x.1, x.3.higher));
    }

    no_later : (r z : ℕ) (h g : Route) → IsChooser r → route_at outcome r ≡ Some h → given net policy config f p outcome z r ≡ Some g → IsNoLater net h g
    no_later r z h g who at e =
        let x = first_given r z g who e in
        let held_is : Some x.0.1 ≡ Some h = sym x.1 ∙ at in
        let same : x.0.1 ≡ h = cc in
        let by : giver x.0.1.path ≡ x.0.0 = giver_is r x.0.0 x.0.1 x.2 in
        let of_g : giver g.path ≡ z = giver_is r z g (taken_given r z ∙ e) in
        subst (λ (k : Route). IsNoLater net k g) same (record {
          higher = x.3.higher;
          fewer = x.3.fewer;
          lower = λ e l. subst (λ (a : ℕ). id_of net a ≤ id_of net (giver g.path)) (sym by) (subst (λ (b : ℕ). id_of net x.0.0 ≤ id_of net b) (sym of_g) (x.3.lower e l));
        })

    pub settled : IsFullyStable net policy config f p outcome
    settled = record {
      stable =
          record {
            dead =
                λ r down. held_none net w.route r
                (λ _. kept.idle r (and_right (is_router net r) (not (w.down r)) (not_from_true (w.down r) (sym (scenario.dead r) ∙ down))));
            own = own_held;
            chooses = chooses_first;
          };
      first = no_later;
    }

-- after every list of events that leaves every queue empty
pub quiet_worlds_are_settled : (net : PlainNet) (policy : PlainPolicy) (config : PlainConfig) (p : PlainPrefix) (es : List Event) (f : Failures) → IsNet net
    → IsQuiet (run (speakers_of net policy config p) es (opening (speakers_of net policy config p)))
    → IsScenarioOf net (run (speakers_of net policy config p) es (opening (speakers_of net policy config p))) f
    → IsFullyStable net policy config f p (outcome_of net (run (speakers_of net policy config p) es (opening (speakers_of net policy config p))).route)
quiet_worlds_are_settled net policy config p es f rules quiet scenario =
    let speak = are_speakers net policy config p rules in
    let kind = begins net policy config p in
    let S = speakers_of net policy config p in
    let w = run S es (opening S) in
    settled net policy config p rules speak w f scenario (run-keeps S speak es (opening S) (opening-keeps S speak)) quiet
    (run-kinds S BeginsWith (λ a b. BeginsWith a) kind es (opening S) (opening-kinds S BeginsWith (λ a b. BeginsWith a) kind))
