-- In a quiet world each peer has heard what it is offered.
use Rattle.std.proofs.Common.{◌≡◌, ℕ, suc, Bool, true, false, List, [], ◌∷◌, Option, Some, None, refl, sym, ap, ◌∙◌, subst, inl, inr}
use Rattle.std.specs.Prelude.{option_map, if◌then◌else◌}
use Rattle.std.specs.Option.{option_and_then}
use Rattle.std.proofs.lemmas.Bool.{cases_Bool, cond-true, false_from_ne_true, or_from, true≢false}
use Rattle.net_base.specs.declared.numbers.Tag.{Tag}
use Rattle.net_base.specs.Network.{PlainNet, IsNet, is_location, is_peer, is_router}
use Rattle.net_base.specs.Prefixes.{PlainPrefix, IsPrefix}
use Rattle.policy_base.specs.Policies.{PlainPolicy, IsPolicyOf}
use Rattle.policy_base.specs.Governing.{is_origin}
use Rattle.config_base.specs.declared.route.Route.{Route}
use Rattle.config_base.specs.Configs.{PlainConfig}
use Rattle.config_base.specs.Lines.{class_of, export_of}
use Rattle.evidence_base.specs.Made.{PlainCaseEvidence, number_at}
use Rattle.outcome_base.specs.Outcomes.{Failures, Outcome, is_live, offered, sent}
use Rattle.evidence_law.specs.Passes.{Passes}
use Rattle.evidence_law.proofs.Existence.{held, outcome_of}
use Rattle.evidence_law.proofs.Heard.{sent-permitted, sent-refused, sent-unrouted}
use Rattle.net_base.proofs.RoutersAndPeers.{peer_no_router, router_no_peer}
use Rattle.evidence_law.proofs.Setting.{graph_of, lines_of, network_of, pairs_of}
use Rattle.routing_law.specs.Graph as graph
use Rattle.routing_law.specs.Network as law
use Rattle.routing_law.specs.Spells as spelled
use Rattle.list_law.proofs.Options.{cases_Option, option_and_then_parts}
use Rattle.routing_law.proofs.Runs.{run_passes, run_place, stands_split}
use Rattle.event_base.specs.declared.event.Event.{Event}
use Rattle.event_law.specs.Kinds.{AreKinds, IsKind}
use Rattle.event_base.specs.World.{Speakers, World, live}
use Rattle.event_law.specs.Kept as event
use Rattle.event_base.specs.Steps.{IsQuiet, opening, run}
use Rattle.event_law.specs.Kept.{IsKept}
use Rattle.event_law.proofs.Keeping.{opening-keeps, run-keeps}
use Rattle.event_law.proofs.KindsKept.{opening-kinds, run-kinds}
use Rattle.settled_law.proofs.SettledLaw.{CaseFound, case_or_bare}
use Rattle.event_law.specs.Scenarios.{IsScenarioOf}
use Rattle.event_base.specs.Speaking.{announced_by, exported_by, message, speakers_of}
use Rattle.event_law.proofs.Quiet.{are_speakers, live_same}
use Rattle.event_law.proofs.Running.{IsHeldAt, IsOnTheWay, kinds}

-- a peer to which a route is sent isn't on its path
module _ (net : law.Network) (g : graph.Graph) (wf : graph.WellFormed net g) where
  pub peer_off : (path rest : List ℕ) (r q n m : ℕ) → path ≡ r ∷ rest → graph.run g path ≡ Some n → g.next n q ≡ Some m → net.router r ≡ true → net.router q ≡ false → law.stands_on q path ≡ false
  peer_off path rest r q n m begins runs step router peer = false_from_ne_true (law.stands_on q path) (λ on.
      let s = stands_split q path on in
      let by = run_passes g s.0 s.1 q n (ap (graph.run g) (sym s.2) ∙ runs) in
      no_steps by.0 n by.2 (run_place wf q s.1 by.0 by.1) (run_place wf r rest n (ap (graph.run g) (sym begins) ∙ runs)))
    where
      no_steps : (k n : ℕ) → graph.Reaches g k n → g.place k ≡ q → g.place n ≡ r → ⊥
      no_steps k n ([], e) at_q at_r =
          let same : k ≡ n = cc in
          true≢false (sym router ∙ ap net.router (sym at_r ∙ ap g.place (sym same) ∙ at_q) ∙ peer)
      no_steps k n (z ∷ zs, e) at_q at_r =
          let s = option_and_then_parts (λ j. graph.follow g j zs) (g.next k z) n e in
          let none = or_from (net.origin (g.place k)) (net.router (g.place k)) (ap net.origin at_q ∙ wf.next_origin _ q m step) (ap net.router at_q ∙ peer) in
          true≢false (sym (wf.next_from k z s.0 s.1) ∙ none)

module _ (net : PlainNet) (policy : PlainPolicy) (config : PlainConfig) (p : PlainPrefix) (rules : IsNet net) (w : World Route) (f : Failures) (scenario : IsScenarioOf net w f)
    (kept : IsKept (speakers_of net policy config p) w) (quiet : IsQuiet w) where
  abbrev S : Speakers Route
  S = speakers_of net policy config p

  abbrev outcome : Outcome
  outcome = outcome_of net w.route

  abbrev shown : ℕ → Option Route → Option (List ℕ)
  shown q o = option_map (λ (m : Route). q ∷ m.path) o

  -- whom the lines send a route isn't on its path
  abbrev IsOff : ℕ → ℕ → Type 0
  IsOff r q = (class : ℕ) (h : Route) (t : Tag) → class_of config p ≡ Some class → w.route r ≡ Some h → export_of net config class r q h.tag ≡ Some t → law.stands_on q h.path ≡ false

  module _ (r q : ℕ) (router : is_router net r ≡ true) (at_peer : is_peer net q ≡ true) where
    abbrev exports : ℕ → Option Route → Option Route
    exports class o = option_and_then (λ (h : Route). option_map (message h) (export_of net config class r q h.tag)) o

    heard_is : live S w r q ≡ true → w.heard r q ≡ exported_by net config p r q (w.route r)
    heard_is on =
        sym (ap (λ (ms : List (Option Route)). event.last_of S ms (w.heard r q)) (quiet r q)) ∙ kept.last r q on ∙ kept.told r q on refl
        ∙ cond-true (is_router net r) (exported_by net config p r q (w.route r)) (if w.silent q r then None else announced_by net policy p r) router

    offer_unsent : is_live net f r q ≡ true → sent net policy config f p outcome r q ≡ None → offered net policy config f p outcome r q ≡ None
    offer_unsent lives s = rw (s, lives, router, at_peer) refl

    offer_sent : (path : List ℕ) (t : Tag) → is_live net f r q ≡ true → sent net policy config f p outcome r q ≡ Some (path, t)
        → law.stands_on q path ≡ false → offered net policy config f p outcome r q ≡ Some (q ∷ path)
    offer_sent path t lives s free = rw (s, lives, router, at_peer, free) refl

    unclassed : class_of config p ≡ None → is_peer net r ≡ false → sent net policy config f p outcome r q ≡ None
    unclassed none off = rw (none, off) refl

    off : is_peer net r ≡ false
    off = router_no_peer net r router

    offers_live : live S w r q ≡ true → IsOff r q → shown q (w.heard r q) ≡ offered net policy config f p outcome r q
    offers_live on free =
        let lives : is_live net f r q ≡ true = live_same net policy config p rules (are_speakers net policy config p rules) w f scenario r q ∙ on in
        ap (shown q) (heard_is on) ∙ elim (cases_Option (class_of config p)) [
          | inl none ↦ ap (λ (c : Option ℕ). shown q (option_and_then (λ (k : ℕ). option_and_then (λ (h : Route). option_map (message h) (export_of net config k r q h.tag)) (w.route r)) c)) none
              ∙ sym (offer_unsent lives (unclassed none off))
          | inr class ↦ ap (λ (c : Option ℕ). shown q (option_and_then (λ (k : ℕ). option_and_then (λ (h : Route). option_map (message h) (export_of net config k r q h.tag)) (w.route r)) c)) class.1
              ∙ classed class.0 class.1 lives
        ]
      where
        classed : (class : ℕ) → class_of config p ≡ Some class → is_live net f r q ≡ true → shown q (exports class (w.route r)) ≡ offered net policy config f p outcome r q
        classed class of_class lives = elim (cases_Option (w.route r)) [
          | inl none ↦
              ap (λ (o : Option Route). shown q (exports class o)) none
              ∙ sym
              (offer_unsent lives (sent-unrouted net policy config f p outcome class rules of_class r q off (held net w.route r router ∙ none)))
          | inr h ↦ ap (λ (o : Option Route). shown q (exports class o)) h.1 ∙ elim (cases_Option (export_of net config class r q h.0.tag)) [
            | inl none ↦ ap (λ (t : Option Tag). shown q (option_map (message h.0) t)) none
                ∙ sym (offer_unsent lives (sent-refused net policy config f p outcome class rules of_class r q h.0 off (held net w.route r router ∙ h.1) none))
            | inr t ↦ ap (λ (t : Option Tag). shown q (option_map (message h.0) t)) t.1
                ∙ sym (offer_sent h.0.path t.0 lives
                (sent-permitted net policy config f p outcome class rules of_class r q h.0 t.0 off (held net w.route r router ∙ h.1) t.1)
                (free class h.0 t.0 of_class h.1 t.1))
          ]
        ]

    pub offers : IsOff r q → shown q (w.heard r q) ≡ offered net policy config f p outcome r q
    offers free = elim (cases_Bool (live S w r q)) [
      | inl on ↦ offers_live on free
      | inr dead ↦ ap (shown q) (kept.empty r q dead).1 ∙ sym (unlive (live_same net policy config p rules (are_speakers net policy config p rules) w f scenario r q ∙ dead))
    ]
      where
        unlive : is_live net f r q ≡ false → offered net policy config f p outcome r q ≡ None
        unlive h = rw h refl

-- ---- Law 5: routes run in the graph of the case

module _ (net : PlainNet) (policy : PlainPolicy) (config : PlainConfig) (cs : List PlainCaseEvidence) (rules : IsNet net)
    (kept : IsPolicyOf net policy) (passes : Passes net policy config cs) (p : PlainPrefix) (f : Failures)
    (c : CaseFound net policy config cs rules kept passes f p) where
  abbrev Here : Speakers Route
  Here = speakers_of net policy config p

  abbrev Graph : graph.Graph
  Graph = graph_of c.d.graph (number_at c.d)

  pub lines_here : spelled.Written (network_of net (is_origin net policy p)) Graph (pairs_of c.d) (lines_of net config p (suc c.k))
  lines_here = subst (λ (o : ℕ → Bool). spelled.Written (network_of net o) Graph (pairs_of c.d) (lines_of net config p (suc c.k))) c.same c.lines

  pub known : (l : ℕ) → is_origin net policy p l ≡ true → is_location net l ≡ true
  known l h = c.known l (ap (λ (o : ℕ → Bool). o l) c.same ∙ h)

  abbrev pub Held_at : ℕ → Route → Type 0
  Held_at = IsHeldAt net policy config p (suc c.k) rules c.of_class Graph (pairs_of c.d) lines_here known

  abbrev pub On_the_way : ℕ → ℕ → Route → Type 0
  On_the_way = IsOnTheWay net policy config p (suc c.k) rules c.of_class Graph (pairs_of c.d) lines_here known

  kind : IsKind Here Held_at On_the_way
  kind = kinds net policy config p (suc c.k) rules c.of_class Graph (pairs_of c.d) lines_here known

  pub held_and_waiting_routes_run : (es : List Event) → AreKinds Held_at On_the_way (run Here es (opening Here))
  held_and_waiting_routes_run es = run-kinds Here Held_at On_the_way kind es (opening Here) (opening-kinds Here Held_at On_the_way kind)

  -- so nobody hears a path on which it stands
  pub never_back : (es : List Event) (r q class : ℕ) (h : Route) (t : Tag) → is_router net r ≡ true → is_peer net q ≡ true
      → class_of config p ≡ Some class → (run Here es (opening Here)).route r ≡ Some h
      → export_of net config class r q h.tag ≡ Some t → law.stands_on q h.path ≡ false
  never_back es r q class h t router peer of_class has permits =
      let out : exported_by net config p r q ((run Here es (opening Here)).route r) ≡ Some (message h t) =
      ap (exported_by net config p r q) has ∙ ap (option_and_then (λ (k : ℕ). option_map (message h) (export_of net config k r q h.tag))) of_class ∙ ap (option_map (message h)) permits in
      let way = (kind.exports r q ((run Here es (opening Here)).route r) router ((held_and_waiting_routes_run es).route r) (message h t) out).router router in
      peer_off (network_of net (is_origin net policy p)) Graph lines_here.formed h.path way.rest r q way.node way.next way.begins way.runs way.step router (peer_no_router net q peer)

-- In a quiet world what a peer has heard is what it is offered.
pub quiet_worlds_offer : (net : PlainNet) (policy : PlainPolicy) (config : PlainConfig) (cs : List PlainCaseEvidence) → IsNet net
    → IsPolicyOf net policy → Passes net policy config cs → (p : PlainPrefix) → IsPrefix p → (es : List Event) (f : Failures)
    → IsQuiet (run (speakers_of net policy config p) es (opening (speakers_of net policy config p)))
    → IsScenarioOf net (run (speakers_of net policy config p) es (opening (speakers_of net policy config p))) f
    → (r q : ℕ) → is_router net r ≡ true → is_peer net q ≡ true
    → option_map (λ (m : Route). q ∷ m.path) ((run (speakers_of net policy config p) es (opening (speakers_of net policy config p))).heard r q)
    ≡ offered net policy config f p (outcome_of net (run (speakers_of net policy config p) es (opening (speakers_of net policy config p))).route) r q
quiet_worlds_offer net policy config cs rules kept passes p prefix es f quiet scenario r q router peer =
    let S = speakers_of net policy config p in
    let speak = are_speakers net policy config p rules in
    offers net policy config p rules (run S es (opening S)) f scenario (run-keeps S speak es (opening S) (opening-keeps S speak)) quiet r q router peer
    (λ class h t of_class has permits. elim (case_or_bare net policy config cs rules kept passes f p prefix) [
      | inl c ↦ never_back net policy config cs rules kept passes p f c es r q class h t router peer of_class has permits
      | inr free ↦ (let none : None ≡ Some class = sym free ∙ of_class in absurd (cc))
    ])
