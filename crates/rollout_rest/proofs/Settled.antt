-- A quiet world of routers that read as one part does is at rest as that part's own network is.
use Rattle.std.proofs.Common.{◌≡◌, ℕ, Bool, true, false, List, [], ◌∷◌, length, Some, ap, ◌∙◌, subst, inl, inr}
use Rattle.std.specs.Prelude.{option_map}
use Rattle.std.specs.Option.{option_and_then}
use Rattle.std.proofs.lemmas.Bool.{cases_Bool}
use Rattle.list_law.proofs.Options.{none_or_some}
use Rattle.net_base.specs.declared.numbers.Tag.{Tag}
use Rattle.net_base.specs.Network.{PlainNet, IsNet, is_peer, is_router}
use Rattle.net_base.specs.Prefixes.{PlainPrefix, IsPrefix}
use Rattle.net_base.proofs.RoutersAndPeers.{peer_no_router}
use Rattle.policy_base.specs.Policies.{IsPolicyOf}
use Rattle.policy_base.specs.Governing.{is_origin}
use Rattle.config_base.specs.declared.route.Route.{Route}
use Rattle.config_base.specs.Lines.{class_of, export_of}
use Rattle.evidence_base.specs.Made.{PlainCaseEvidence, number_at}
use Rattle.outcome_base.specs.Outcomes.{Failures, Outcome, offered}
use Rattle.evidence_law.specs.Passes.{Passes}
use Rattle.evidence_law.proofs.Setting.{graph_of, network_of, pairs_of}
use Rattle.routing_law.specs.Graph as graph
use Rattle.routing_law.specs.Network as law
use Rattle.settled_law.specs.Settled.{IsFullyStable}
use Rattle.settled_law.proofs.SettledLaw.{CaseFound, case_or_bare, settled_outcomes_are_one}
use Rattle.event_base.specs.Speaking.{exported_by, message, speakers_of, taken_by}
use Rattle.event_base.specs.Steps.{IsQuiet}
use Rattle.event_base.specs.World.{Speakers, World}
use Rattle.event_law.specs.Kept.{IsKept}
use Rattle.event_law.specs.Kinds.{AreKinds, IsKind}
use Rattle.event_law.specs.Scenarios.{IsScenarioOf, routes_of}
use Rattle.event_law.proofs.First.{NoLater}
use Rattle.event_law.proofs.Offers.{Held_at, On_the_way, known, lines_here, offers, peer_off}
use Rattle.event_law.proofs.Quiet as quiet_law
use Rattle.event_law.proofs.Quiet.{BeginsWith}
use Rattle.event_law.proofs.Running.{kinds}
use Rattle.event_law.proofs.Waiting.{routes_size, said, same_routes}
use Rattle.rest_law.specs.Rest.{IsAtRest}
use Rattle.rest_law.proofs.Choosers.{are_choosers}
use Rattle.rest_law.proofs.Trails.{IsHolding, IsSaying, trails}
use Rattle.rollout_base.specs.Mixtures.{Mixture, Part, mixed}
use Rattle.rollout_law.proofs.Reading.{Sent, Tagged}
use Rattle.rollout_law.proofs.Same.{kept_alike}
use Rattle.rollout_rest.specs.Laws.{AllRead, RestingReadersHoldItsTags}
use Rattle.rollout_rest.proofs.Mixed.{mixed_choosers, taken_in}
use Rattle.rollout_rest.proofs.Readers.{readers_keep}
use Rattle.rollout_rest.proofs.Resting.{rest_kinds}

pub resting_readers_hold_its_tags : RestingReadersHoldItsTags
resting_readers_hold_its_tags net says p x m w rules reads kept quiet =
    rest_kinds (mixed net says p m) (taken_in net p m) (NoLater net) (λ (h : Route). length h.path) (mixed_choosers net says p m rules) (Tagged net says p x) (Sent net says p x)
    (readers_keep net says p x m reads) w kept quiet

module _ (net : PlainNet) (p : PlainPrefix) (x : Part) (rules : IsNet net) (w : World Route) (f : Failures) (scenario : IsScenarioOf net w f)
    (kept : IsKept (speakers_of net x.policy x.config p) w) (quiet : IsQuiet w) where
  abbrev B : Speakers Route
  B = speakers_of net x.policy x.config p

  -- each route is of every kind that its lines keep
  kinds_here : (hold : ℕ → Route → Type 0) (on : ℕ → ℕ → Route → Type 0) → IsKind B hold on → AreKinds hold on w
  kinds_here hold on kind = rest_kinds B (taken_by net x.config p) (NoLater net) (λ (h : Route). length h.path) (are_choosers net x.policy x.config p rules) hold on kind w kept quiet

  trail_begins : (a b : ℕ) (m : Route) → IsSaying net a b m → BeginsWith a m
  trail_begins a b m says = elim (cases_Bool (is_router net a)) [
    | inl router ↦ (let h = says.0 router in (h.0, h.1))
    | inr off ↦ ([], says.1 off)
  ]

  begin : AreKinds BeginsWith (λ a b. BeginsWith a) w
  begin =
      said (IsHolding net) BeginsWith (IsSaying net) (λ a b. BeginsWith a) (λ r h held. (held.0, held.1)) trail_begins w
      (kinds_here (IsHolding net) (IsSaying net) (trails net x.policy x.config p))

  pub settled : IsFullyStable net x.policy x.config f p (routes_of net w)
  settled =
      subst (IsFullyStable net x.policy x.config f p) (same_routes net w)
      (quiet_law.settled net x.policy x.config p rules (quiet_law.are_speakers net x.policy x.config p rules) w f scenario kept quiet begin)

  -- ---- where its evidence passes

  module _ (cs : List PlainCaseEvidence) (lawful : IsPolicyOf net x.policy) (passes : Passes net x.policy x.config cs) (prefix : IsPrefix p) where
    -- no peer is sent a path on which it stands
    never_back : (c : CaseFound net x.policy x.config cs rules lawful passes f p) (r q class : ℕ) (h : Route) (t : Tag) → is_router net r ≡ true → is_peer net q ≡ true
        → class_of x.config p ≡ Some class → w.route r ≡ Some h → export_of net x.config class r q h.tag ≡ Some t → law.stands_on q h.path ≡ false
    never_back c r q class h t router peer of_class has permits =
        let g : graph.Graph = graph_of c.d.graph (number_at c.d) in
        let lines = lines_here net x.policy x.config cs rules lawful passes p f c in
        let kind = kinds net x.policy x.config p _ rules c.of_class g (pairs_of c.d) lines (known net x.policy x.config cs rules lawful passes p f c) in
        let held =
        kinds_here (Held_at net x.policy x.config cs rules lawful passes p f c) (On_the_way net x.policy x.config cs rules lawful passes p f c) kind in
        let out : exported_by net x.config p r q (w.route r) ≡ Some (message h t) =
        ap (exported_by net x.config p r q) has ∙ ap (option_and_then (λ (k : ℕ). option_map (message h) (export_of net x.config k r q h.tag))) of_class ∙ ap (option_map (message h)) permits in
        let way = (kind.exports r q (w.route r) router (held.route r) (message h t) out).router router in
        peer_off (network_of net (is_origin net x.policy p)) g lines.formed h.path way.rest r q way.node way.next way.begins way.runs way.step router (peer_no_router net q peer)

    peers_hear : (r q : ℕ) → is_router net r ≡ true → is_peer net q ≡ true
        → option_map (λ (m : Route). q ∷ m.path) (w.heard r q) ≡ offered net x.policy x.config f p (routes_of net w) r q
    peers_hear r q router peer =
        offers net x.policy x.config p rules w f scenario kept quiet r q router peer (λ class h t of_class has permits. elim (case_or_bare net x.policy x.config cs rules lawful passes f p prefix) [
          | inl c ↦ never_back c r q class h t router peer of_class has permits
          | inr free ↦ absurd (none_or_some (class_of x.config p) class free of_class)
        ])
        ∙ ap (λ (o : Outcome). offered net x.policy x.config f p o r q) (same_routes net w)

    pub own_rest : IsAtRest net x.policy x.config p f w
    own_rest = record {
      quiet = quiet;
      settled = settled;
      alone = λ other size full. settled_outcomes_are_one net x.policy x.config cs rules lawful passes p f prefix other (routes_of net w) size (routes_size net w) full settled;
      heard = peers_hear;
    }

-- ---- so it is where all read as that part

module _ (net : PlainNet) (p : PlainPrefix) (x : Part) (rules : IsNet net) (m : Mixture) (w : World Route) (f : Failures) (reads : AllRead net p x m) (scenario : IsScenarioOf net w f)
    (kept : IsKept (mixed net (is_origin net x.policy p) p m) w) (quiet : IsQuiet w) where
  own_kept : IsKept (speakers_of net x.policy x.config p) w
  own_kept =
      let says : ℕ → Bool = is_origin net x.policy p in
      kept_alike net says p x m reads w (resting_readers_hold_its_tags net says p x m w rules reads kept quiet) kept

  pub readers_settle : IsFullyStable net x.policy x.config f p (routes_of net w)
  readers_settle = settled net p x rules w f scenario own_kept quiet

  pub readers_rest : (cs : List PlainCaseEvidence) → IsPolicyOf net x.policy → Passes net x.policy x.config cs → IsPrefix p → IsAtRest net x.policy x.config p f w
  readers_rest cs lawful passes prefix = own_rest net p x rules w f scenario own_kept quiet cs lawful passes prefix
