-- Held and waiting routes run in the graph of the case, in the words of the graph.
use Rattle.std.proofs.Common.{◌≡◌, ℕ, ◌<◌, true, false, not, List, [], ◌∷◌, length, Option, Some, None, refl, sym, ap, ◌∙◌, subst, inl, inr}
use Rattle.std.specs.Prelude.{option_map}
use Rattle.std.specs.Option.{option_and_then}
use Rattle.std.proofs.lemmas.Bool.{and_from, and_parts, cases_Bool, cond-true, cond-false, lt-ltb, not_from_false}
use Rattle.std.proofs.lemmas.List.{length-map}
use Rattle.std.proofs.lemmas.Option.{same_Some, slice_get-map}
use Rattle.net_base.specs.Network.{PlainNet, IsNet, is_peer, is_router}
use Rattle.net_base.specs.Prefixes.{PlainPrefix}
use Rattle.policy_base.specs.Policies.{PlainPolicy, PlainStatement, IsPolicyOf}
use Rattle.policy_base.specs.Governing.{is_origin}
use Rattle.policy_base.specs.Permitted.{is_permitted, is_allowed}
use Rattle.policy_base.specs.Walks.{is_loop_free}
use Rattle.net_base.specs.Locations.{neighbours, numbers_below}
use Rattle.graph_base.specs.Runs as plain
use Rattle.config_base.specs.declared.route.Route.{Route}
use Rattle.config_base.specs.Configs.{PlainConfig}
use Rattle.config_base.specs.Lines.{class_of, own_route}
use Rattle.evidence_base.specs.Made.{PlainCaseEvidence, number_at}
use Rattle.outcome_base.specs.Outcomes.{Failures, Outcome, offered, no_failures}
use Rattle.evidence_law.specs.Passes.{Passes}
use Rattle.evidence_law.proofs.CaseOrigins.{prefix_permits, same_free}
use Rattle.evidence_law.proofs.Existence.{held, outcome_of, outcome-size}
use Rattle.evidence_law.proofs.GraphForms.{same_run}
use Rattle.net_base.proofs.RoutersAndPeers.{peer_no_router}
use Rattle.evidence_law.proofs.PeerWalks.{peer_permits}
use Rattle.evidence_law.proofs.Setting.{graph_of, network_of, pairs_of, tag_of}
use Rattle.net_base.proofs.NumbersBelow.{length-numbers_below, slice_get-numbers_below}
use Rattle.routing_law.specs.Graph as laws
use Rattle.routing_law.specs.Network as law
use Rattle.list_law.proofs.Options.{option_map_parts, none_or_some}
use Rattle.event_base.specs.declared.event.Event.{Event}
use Rattle.event_law.specs.Kinds.{AreKinds, Each, IsKind}
use Rattle.event_base.specs.Steps.{opening, run}
use Rattle.event_base.specs.World.{Speakers, World}
use Rattle.event_law.proofs.KindsKept.{opening-kinds, run-kinds}
use Rattle.list_law.proofs.Items.{same_options}
use Rattle.settled_law.proofs.SettledLaw.{CaseFound, case_of_class}
use Rattle.settled_law.specs.Settled.{IsFullyStable}
use Rattle.event_law.specs.Laws.{QuietWorldsAreSettled, QuietWorldsOffer}
use Rattle.event_law.specs.Scenarios.{routes_of}
use Rattle.event_base.specs.Speaking.{exported_by, first_of, speakers_of, taken_by}
use Rattle.event_law.specs.Waiting.{HasRun, HeldAndWaitingRoutesRun, IsHeld, IsOnItsWay, OriginsAloneHoldRoutes}
use Rattle.event_law.proofs.Offers as way
use Rattle.event_law.proofs.Offers.{Held_at, On_the_way, peer_off, quiet_worlds_offer}
use Rattle.event_law.proofs.Quiet as rest
use Rattle.event_law.proofs.Running.{RunsTo, first_is_given}

-- ---- other words for what holds of every route

module _ {R : Type 0} (at at' : ℕ → R → Type 0) (on on' : ℕ → ℕ → R → Type 0) (f : (r : ℕ) (h : R) → at r h → at' r h) (g : (a b : ℕ) (m : R) → on a b m → on' a b m) where
  each_said : (a b : ℕ) (ms : List (Option R)) → Each (on a b) ms → Each (on' a b) ms
  each_said a b [] e = tt
  each_said a b (m ∷ ms) e = (λ y h. g a b y (e.0 y h), each_said a b ms e.1)

  pub said : (w : World R) → AreKinds at on w → AreKinds at' on' w
  said w k = record {
    queue = λ a b. each_said a b (w.queue a b) (k.queue a b);
    heard = λ a b y h. g a b y (k.heard a b y h);
    queued = λ a b y h. g a b y (k.queued a b y h);
    route = λ r y h. f r y (k.route r y h);
  }

module _ (net : PlainNet) (policy : PlainPolicy) (config : PlainConfig) (cs : List PlainCaseEvidence) (rules : IsNet net)
    (kept : IsPolicyOf net policy) (passes : Passes net policy config cs) (p : PlainPrefix) (f : Failures)
    (c : CaseFound net policy config cs rules kept passes f p) where
  run_is : (path : List ℕ) (n : ℕ) → laws.run (graph_of c.d.graph (number_at c.d)) path ≡ Some n → plain.run c.d.graph path ≡ Some n
  run_is path n h = sym (same_run c.d.graph (number_at c.d) path) ∙ h

  -- what runs in the graph of the laws has a run in the case's
  pub has_run : (r : ℕ) (path rest : List ℕ) (n : ℕ) → path ≡ r ∷ rest → law.loop_free path ≡ true → laws.run (graph_of c.d.graph (number_at c.d)) path ≡ Some n → HasRun c.d r path n
  has_run r path rest n begins free runs = record { rest = rest; begins = begins; free = sym (same_free path) ∙ free; runs = run_is path n runs }

  held_said : (r : ℕ) (h : Route) → Held_at net policy config cs rules kept passes p f c r h → IsHeld net policy config p c.d r h
  held_said r h x = record {
    own = x.own;
    other = λ o. (let a = x.other o in (a.node, has_run r h.path a.rest a.node a.begins a.free a.runs, ap tag_of a.tag_is, a.pref_is));
  }

  -- what a router sends a peer is allowed, with the peer in front
  pub sent_allowed : (a b : ℕ) (m : Route) → is_router net a ≡ true → is_peer net b ≡ true → RunsTo net (graph_of c.d.graph (number_at c.d)) (pairs_of c.d) a b m
      → is_allowed net policy p c.s (b ∷ m.path) ≡ true
  sent_allowed a b m router peer y =
      let off = peer_off (network_of net (is_origin net policy p)) (graph_of c.d.graph (number_at c.d))
      (way.lines_here net policy config cs rules kept passes p f c).formed m.path y.rest a b y.node y.next y.begins y.runs y.step router
      (peer_no_router net b peer) in
      let runs : plain.run c.d.graph (b ∷ a ∷ y.rest) ≡ Some y.next = ap (option_and_then (λ n. plain.step_at c.d.graph n b))
      (ap (plain.run c.d.graph) (sym y.begins) ∙ run_is m.path y.node y.runs) ∙ y.step in
      let permitted = subst (λ (q : List ℕ). is_permitted net policy p c.s (b ∷ q) ≡ true) (sym y.begins)
      (prefix_permits net policy p c.s c.same (b ∷ a ∷ y.rest) (peer_permits net c.s c.d c.on b a y.next y.rest peer runs)) in
      and_from (is_permitted net policy p c.s (b ∷ m.path)) (is_loop_free (b ∷ m.path)) permitted
      (and_from (not (law.stands_on b m.path)) (is_loop_free m.path) (not_from_false _ off) (sym (same_free m.path) ∙ y.free))

  pub way_said : (a b : ℕ) (m : Route) → On_the_way net policy config cs rules kept passes p f c a b m → IsOnItsWay net policy p c.s c.d a b m
  way_said a b m x = record {
    router = λ t. (let y = x.router t in (y.node, y.next, has_run a m.path y.rest y.node y.begins y.free y.runs, y.step, λ to. ap tag_of (y.to_router to)));
    allowed = λ t. (let who = and_parts (is_router net a) (is_peer net b) t in sent_allowed a b m who.0 who.1 (x.router who.0));
    peer = λ o. (let y = x.peer o in (y.0, y.1));
  }

  all_said : (es : List Event) → AreKinds (IsHeld net policy config p c.d) (IsOnItsWay net policy p c.s c.d) (run (speakers_of net policy config p) es (opening (speakers_of net policy config p)))
  all_said es =
      said (Held_at net policy config cs rules kept passes p f c) (IsHeld net policy config p c.d)
      (On_the_way net policy config cs rules kept passes p f c) (IsOnItsWay net policy p c.s c.d) held_said way_said
      (run (speakers_of net policy config p) es (opening (speakers_of net policy config p))) (way.held_and_waiting_routes_run net policy config cs rules kept passes p f c es)

pub held_and_waiting_routes_run : HeldAndWaitingRoutesRun
held_and_waiting_routes_run net policy config cs rules kept passes p s k d prefix governs of_class at es =
    let c = case_of_class net policy config cs rules kept passes no_failures p prefix k d of_class at in
    let same_s = same_Some c.0.s s (sym c.0.governs ∙ governs) in
    let after = run (speakers_of net policy config p) es (opening (speakers_of net policy config p)) in
    subst (λ (z : PlainStatement). AreKinds (IsHeld net policy config p d) (IsOnItsWay net policy p z d) after) same_s
    (subst (λ (e : PlainCaseEvidence). AreKinds (IsHeld net policy config p e) (IsOnItsWay net policy p c.0.s e) after) c.1 (all_said net policy config cs rules kept passes p no_failures c.0 es))

-- ---- without a class

module _ (net : PlainNet) (policy : PlainPolicy) (config : PlainConfig) (p : PlainPrefix) (free : class_of config p ≡ None) where
  abbrev S : Speakers Route
  S = speakers_of net policy config p

  abbrev IsOwn : ℕ → Route → Type 0
  IsOwn r h = (is_origin net policy p r ≡ true) × (h ≡ own_route net config p r)

  abbrev IsNews : ℕ → ℕ → Route → Type 0
  IsNews a b m = (is_router net a ≡ false) × (is_origin net policy p a ≡ true)

  abbrev gives : ℕ → (ℕ → Option Route) → ℕ → Option Route
  gives r offer u = taken_by net config p r u (offer u)

  bare_kind : IsKind S IsOwn IsNews
  bare_kind = record {
    exports = λ a b m router before y e. absurd (none_or_some _ _ (unexported a b m) e);
    announces = λ a b off y e. elim (cases_Bool (is_origin net policy p a)) [
      | inl origin ↦ (off, origin)
      | inr other ↦ absurd (none_or_some _ _ (cond-false (is_origin net policy p a) _ None other) e)
    ];
    chooses = λ r offer router before y e. elim (cases_Bool (is_origin net policy p r)) [
      | inl origin ↦ (
          let is : Some (own_route net config p r) ≡ Some y = sym (cond-true (is_origin net policy p r) (Some (own_route net config p r))
          (option_map (λ (x : ℕ × Route). x.1) (first_of net (gives r offer) (neighbours net r))) origin) ∙ e in
          let same : own_route net config p r ≡ y = cc in
          (origin, sym same))
      | inr other ↦
          absurd (ungiven r offer y (sym (cond-false (is_origin net policy p r) (Some (own_route net config p r))
          (option_map (λ (x : ℕ × Route). x.1) (first_of net (gives r offer) (neighbours net r))) other) ∙ e))
    ];
  }
    where
      unexported : (a b : ℕ) (m : Option Route) → exported_by net config p a b m ≡ None
      unexported a b m = rw free refl

      untaken : (r u : ℕ) (o : Option Route) → taken_by net config p r u o ≡ None
      untaken r u o = rw free refl

      ungiven : (r : ℕ) (offer : ℕ → Option Route) (y : Route) → option_map (λ (x : ℕ × Route). x.1) (first_of net (gives r offer) (neighbours net r)) ≡ Some y → ⊥
      ungiven r offer y h =
          let x = option_map_parts (λ (x : ℕ × Route). x.1) (first_of net (gives r offer) (neighbours net r)) y h in
          none_or_some _ _ (untaken r x.0.0 (offer x.0.0)) (first_is_given net (gives r offer) (neighbours net r) x.0 x.1)

pub origins_alone_hold_routes : OriginsAloneHoldRoutes
origins_alone_hold_routes net policy config p free es =
    let S = speakers_of net policy config p in
    run-kinds S (IsOwn net policy config p free) (IsNews net policy config p free) (bare_kind net policy config p free) es (opening S)
    (opening-kinds S (IsOwn net policy config p free) (IsNews net policy config p free) (bare_kind net policy config p free))

-- ---- the routes of a world, one entry a router

pub routes_size : (net : PlainNet) (w : World Route) → length (routes_of net w) ≡ length net.routers
routes_size net w = length-map (numbers_below (length net.routers)) w.route ∙ length-numbers_below (length net.routers)

pub same_routes : (net : PlainNet) (w : World Route) → outcome_of net w.route ≡ routes_of net w
same_routes net w =
    let n = length net.routers in
    same_options (outcome_of net w.route) (routes_of net w) (outcome-size net w.route ∙ sym (routes_size net w)) (λ i below.
    let less : i < n = subst (λ (k : ℕ). i < k) (outcome-size net w.route) below in
    held net w.route i (lt-ltb i n less)
    ∙ sym (ap (option_and_then (λ (o : Option Route). o))
    (slice_get-map w.route (numbers_below n) i ∙ ap (option_map w.route) (slice_get-numbers_below n i less))))

pub quiet_worlds_are_settled : QuietWorldsAreSettled
quiet_worlds_are_settled net policy config p es f rules quiet scenario =
    let S = speakers_of net policy config p in
    subst (IsFullyStable net policy config f p) (same_routes net (run S es (opening S))) (rest.quiet_worlds_are_settled net policy config p es f rules quiet scenario)

pub peers_hear_offers : QuietWorldsOffer
peers_hear_offers net policy config cs rules kept passes p prefix es f quiet scenario r q router peer =
    let S = speakers_of net policy config p in
    quiet_worlds_offer net policy config cs rules kept passes p prefix es f quiet scenario r q router peer
    ∙ ap (λ (o : Outcome). offered net policy config f p o r q) (same_routes net (run S es (opening S)))
