-- Each side's own network has an order in what is down, cut and silent, and what its routers settle on is a settled outcome.
use Rattle.std.proofs.Common.{◌≡◌, ℕ, suc, Bool, true, false, not, ◌&&◌, List, length, Option, Some, None, refl, sym, ap, ◌∙◌, subst, inl, inr}
use Rattle.std.specs.Prelude.{option_map, if◌then◌else◌}
use Rattle.std.specs.Option.{option_and_then}
use Rattle.std.proofs.lemmas.Bool.{and_from, and_left, and_right, cases_Bool, cond-false, cond-true, ltb-true, not_from_false, not_from_true}
use Rattle.list_law.proofs.Options.{cases_Option, none_or_some}
use Rattle.net_base.specs.Network.{PlainNet, IsNet, is_location, is_router}
use Rattle.net_base.specs.Prefixes.{PlainPrefix, IsPrefix}
use Rattle.policy_base.specs.Policies.{PlainPolicy, IsPolicyOf}
use Rattle.policy_base.specs.Governing.{is_origin}
use Rattle.config_base.specs.declared.route.Route.{Route}
use Rattle.config_base.specs.Configs.{PlainConfig}
use Rattle.config_base.specs.Lines.{class_of, import_of, own_route}
use Rattle.evidence_base.specs.Made.{PlainCaseEvidence}
use Rattle.outcome_base.specs.Outcomes.{Failures, IsStable, Outcome, given, is_dead, route_at}
use Rattle.evidence_law.specs.Passes.{Passes}
use Rattle.evidence_law.proofs.Existence.{held, outcome-size, outcome_of, route_of as line_route, unheld}
use Rattle.evidence_law.proofs.ExistenceLaw.{lone_stable, own_alone}
use Rattle.evidence_law.proofs.Heard.{no_gift}
use Rattle.evidence_law.proofs.Setting.{lines_of, network_of, pairs_of, setup_of}
use Rattle.routing_law.specs.Graph as graph
use Rattle.routing_law.specs.Lines as line
use Rattle.routing_law.specs.Network as law
use Rattle.routing_law.specs.Outcome as outcomes
use Rattle.routing_law.specs.Spells as spelled
use Rattle.routing_law.proofs.Back.{graph_is_lines}
use Rattle.routing_law.proofs.Rounds.{exists}
use Rattle.settled_law.specs.Settled.{IsFullyStable}
use Rattle.settled_law.proofs.Fully.{fully, names_differ}
use Rattle.settled_law.proofs.SettledLaw.{bare_fully, case_or_bare}
use Rattle.event_base.specs.Speaking.{extended, speakers_of, taken_by}
use Rattle.event_base.specs.World.{Speakers, World, running}
use Rattle.event_law.specs.Scenarios.{IsScenarioOf}
use Rattle.event_law.proofs.First.{NoLater}
use Rattle.rest_law.specs.Orders.{at_rest, rests}
use Rattle.rest_law.proofs.Choosers.{are_choosers}
use Rattle.rest_law.proofs.Ending.{HasOrder}
use Rattle.rest_law.proofs.Graphs.{held_in}
use Rattle.rest_law.proofs.OfGraph.{are_of_graph, route_of, setup}
use Rattle.rest_law.proofs.Ordered.{bare, bare_order, ordered}
use Rattle.rollout_mixtures.proofs.Resters.{dead_rests, down_at_rest, is_chooser, own_at_rest, own_rests, peer_rests}

-- The routers settle in an order, and what they settle on is an outcome of f with ties broken.
pub record Settles (net : PlainNet) (policy : PlainPolicy) (config : PlainConfig) (p : PlainPrefix) (w : World Route) (f : Failures) : Type 0 where
  pub outcome : Outcome
  pub size : length outcome ≡ length net.routers
  pub full : IsFullyStable net policy config f p outcome
  pub order : HasOrder net policy config p w (route_at outcome)

module _ (net : PlainNet) (policy : PlainPolicy) (config : PlainConfig) (p : PlainPrefix) (rules : IsNet net) (w : World Route) (f : Failures) (scenario : IsScenarioOf net w f) where
  abbrev S : Speakers Route
  S = speakers_of net policy config p

  -- An outcome is settled on, where its routes are those of an order at each router.
  settles_on : (out g : ℕ → Option Route) → HasOrder net policy config p w out → IsFullyStable net policy config f p (outcome_of net g)
      → ((r : ℕ) → is_router net r ≡ true → out r ≡ route_at (outcome_of net g) r) → Settles net policy config p w f
  settles_on out g order full same = record {
    outcome = outcome_of net g;
    size = outcome-size net g;
    full = full;
    order = subst (HasOrder net policy config p w) (λ i r. everywhere r i) order;
  }
    where
      everywhere : (r : ℕ) → out r ≡ route_at (outcome_of net g) r
      everywhere r = elim (cases_Bool (is_router net r)) [
        | inl router ↦ same r router
        | inr off ↦
            order.rested r (peer_rests net policy config p w r off)
            ∙ cond-false (running S w r) (S.choose r (λ u. None)) None (and_left (is_router net r) (not (w.down r)) off) ∙ sym (unheld net g r off)
      ]

  -- what is down is at rest without a route
  down_holds : (x : Option Route) (r : ℕ) → w.down r ≡ true → (if rests S w r then at_rest S w r else x) ≡ None
  down_holds x r down =
      cond-true (rests S w r) (at_rest S w r) x (dead_rests net policy config p w r down) ∙ down_at_rest net policy config p w r down

  own_holds : (x : Option Route) (r : ℕ) → is_router net r ≡ true → w.down r ≡ false → is_origin net policy p r ≡ true → (if rests S w r then at_rest S w r else x) ≡ Some (own_route net config p r)
  own_holds x r router up origin =
      cond-true (rests S w r) (at_rest S w r) x (own_rests net policy config p w r origin) ∙ own_at_rest net policy config p w r router up origin

  other_holds : (x : Option Route) (r : ℕ) → is_router net r ≡ true → w.down r ≡ false → is_origin net policy p r ≡ false → (if rests S w r then at_rest S w r else x) ≡ x
  other_holds x r router up other = cond-false (rests S w r) (at_rest S w r) x (is_chooser net policy config p w r router up other)

  -- ---- over a graph whose lines these are

  module _ (class : ℕ) (of_class : class_of config p ≡ Some class) (g : graph.Graph) (tag : ℕ → line.Tag)
      (written : spelled.Written (network_of net (is_origin net policy p)) g tag (lines_of net config p class))
      (known : (l : ℕ) → is_origin net policy p l ≡ true → is_location net l ≡ true) (meets : graph.MeetsRules (network_of net (is_origin net policy p)) g) where
    abbrev within : outcomes.Setup
    within = setup net policy config p class rules of_class g tag written known w f scenario

    abbrev to : outcomes.Route → Route
    to = route_of net policy config p class rules of_class g tag written known

    abbrev lines : line.Lines
    lines = lines_of net config p class

    module _ (s : outcomes.Routes) (full : outcomes.FullyStable within s) where
      abbrev tagged : line.LineRoutes
      tagged = outcomes.with_tags within tag lines s

      same_tags : (o : Option outcomes.Route) → option_map to o ≡ option_map line_route (option_map (outcomes.with_tag g tag) o)
      same_tags None = refl
      same_tags (Some y) = refl

      tagged_origin : (r : ℕ) → is_origin net policy p r ≡ true → is_dead f r ≡ false → tagged r ≡ Some (line.own_line lines r)
      tagged_origin r origin alive =
          cond-true (is_origin net policy p r) (if not (is_dead f r) then Some (line.own_line lines r) else None) (option_map (outcomes.with_tag g tag) (s r)) origin
          ∙ cond-true (not (is_dead f r)) (Some (line.own_line lines r)) None (not_from_false (is_dead f r) alive)

      tagged_other : (r : ℕ) → is_origin net policy p r ≡ false → tagged r ≡ option_map (outcomes.with_tag g tag) (s r)
      tagged_other r other = cond-false (is_origin net policy p r) (if not (is_dead f r) then Some (line.own_line lines r) else None) (option_map (outcomes.with_tag g tag) (s r)) other

      tagged_dead : (r : ℕ) → is_dead f r ≡ true → tagged r ≡ None
      tagged_dead r dead = elim (cases_Bool (is_origin net policy p r)) [
        | inl origin ↦
            cond-true (is_origin net policy p r) (if not (is_dead f r) then Some (line.own_line lines r) else None) (option_map (outcomes.with_tag g tag) (s r)) origin
            ∙ cond-false (not (is_dead f r)) (Some (line.own_line lines r)) None (not_from_true (is_dead f r) dead)
        | inr other ↦ tagged_other r other ∙ ap (option_map (outcomes.with_tag g tag)) (full.stable.none r other (off r dead))
      ]
        where
          off : (r : ℕ) → is_dead f r ≡ true → law.chooses within.net within.alive r ≡ false
          off r dead = and_right (is_router net r) _ (and_left (not (is_dead f r)) (not (is_origin net policy p r)) (not_from_true (is_dead f r) dead))

      holds_tagged : (r : ℕ) → is_router net r ≡ true → held_in S w to s r ≡ option_map line_route (tagged r)
      holds_tagged r router = elim (cases_Bool (w.down r)) [
        | inl down ↦ down_holds (option_map to (s r)) r down ∙ sym (ap (option_map line_route) (tagged_dead r (scenario.dead r ∙ down)))
        | inr up ↦ elim (cases_Bool (is_origin net policy p r)) [
          | inl origin ↦ own_holds (option_map to (s r)) r router up origin ∙ sym (ap (option_map line_route) (tagged_origin r origin (scenario.dead r ∙ up)))
          | inr other ↦ other_holds (option_map to (s r)) r router up other ∙ same_tags (s r) ∙ sym (ap (option_map line_route) (tagged_other r other))
        ]
      ]

      over : Settles net policy config p w f
      over =
          let has =
          ordered S w (taken_by net config p) (NoLater net) (λ (h : Route). length h.path) (are_choosers net policy config p rules) within to
          (are_of_graph net policy config p class rules of_class g tag written known w f scenario) (names_differ net (is_origin net policy p) rules) written.formed s meets full in
          let lined = graph_is_lines within tag lines s written full in
          settles_on (held_in S w to s) (λ v. option_map line_route (tagged v))
          (record { rested = λ r t. cond-true (rests S w r) (at_rest S w r) (option_map to (s r)) t; routers = has.0; order = has.1 })
          (fully net policy config f p class rules of_class tagged lined)
          (λ r router. holds_tagged r router ∙ sym (held net (λ v. option_map line_route (tagged v)) r router))

    over_graph : Settles net policy config p w f
    over_graph = (let settled = exists within written.formed meets in over settled.0 settled.1)

  -- ---- without a class

  module _ (free : class_of config p ≡ None) where
    nothing : (r u : ℕ) (o : Option Route) → taken_by net config p r u o ≡ None
    nothing r u o = ap (option_and_then (λ (k : ℕ). option_and_then (λ (m : Route). option_map (extended r m) (import_of net config k r u m.path m.tag)) o)) free

    abbrev lone : ℕ → Option Route
    lone = bare S w (taken_by net config p) (NoLater net) (length net.routers) (λ r t. ltb-true r (length net.routers) t) nothing

    abbrev alone : ℕ → Option Route
    alone = own_alone net policy config f p free

    abbrev stable : IsStable net policy config f p (outcome_of net alone)
    stable = lone_stable net policy config f p free

    unrouted : (r : ℕ) → (is_router net r && not (is_origin net policy p r) && not (is_dead f r)) ≡ true → route_at (outcome_of net alone) r ≡ None
    unrouted r h = elim (cases_Option (route_at (outcome_of net alone) r)) [
      | inl none ↦ none
      | inr has ↦ (
          let by = (stable.chooses r h).given_by has.0 has.1 in
          absurd (none_or_some (given net policy config f p (outcome_of net alone) by.0 r) has.0 (no_gift net policy config f p (outcome_of net alone) free by.0 r) by.1))
    ]

    who : (b : Bool) (r : ℕ) → is_router net r ≡ true → b ≡ true → w.down r ≡ false → (is_router net r && b && not (is_dead f r)) ≡ true
    who b r router t up = and_from (is_router net r && b) (not (is_dead f r)) (and_from (is_router net r) b router t) (not_from_false (is_dead f r) (scenario.dead r ∙ up))

    holds_lone : (r : ℕ) → is_router net r ≡ true → lone r ≡ route_at (outcome_of net alone) r
    holds_lone r router = elim (cases_Bool (w.down r)) [
      | inl down ↦ down_holds None r down ∙ sym (stable.dead r (scenario.dead r ∙ down))
      | inr up ↦ elim (cases_Bool (is_origin net policy p r)) [
        | inl origin ↦ own_holds None r router up origin ∙ sym (stable.own r (who (is_origin net policy p r) r router origin up))
        | inr other ↦ other_holds None r router up other ∙ sym (unrouted r (who (not (is_origin net policy p r)) r router (not_from_false (is_origin net policy p r) other) up))
      ]
    ]

    pub bare_over : Settles net policy config p w f
    bare_over =
        let has = bare_order S w (taken_by net config p) (NoLater net) (length net.routers) (λ r t. ltb-true r (length net.routers) t) nothing in
        settles_on lone alone (record { rested = λ r t. cond-true (rests S w r) (at_rest S w r) None t; routers = has.0; order = has.1 })
        (bare_fully net policy config f p free (outcome_of net alone) stable) holds_lone

pub settles : (net : PlainNet) (policy : PlainPolicy) (config : PlainConfig) (cs : List PlainCaseEvidence) → IsNet net → IsPolicyOf net policy → Passes net policy config cs
    → (p : PlainPrefix) → IsPrefix p → (w : World Route) (f : Failures) → IsScenarioOf net w f → Settles net policy config p w f
settles net policy config cs rules lawful passes p prefix w f scenario = elim (case_or_bare net policy config cs rules lawful passes f p prefix) [
  | inr free ↦ bare_over net policy config p rules w f scenario free
  | inl c ↦ (
      let g = (setup_of net f c.d).graph in
      let written = subst (λ (o : ℕ → Bool). spelled.Written (network_of net o) g (pairs_of c.d) (lines_of net config p (suc c.k))) c.same c.lines in
      let meets = subst (λ (o : ℕ → Bool). graph.MeetsRules (network_of net o) g) c.same c.numbers in
      let known : (l : ℕ) → is_origin net policy p l ≡ true → is_location net l ≡ true = λ l t. c.known l (ap (λ (o : ℕ → Bool). o l) c.same ∙ t) in
      over_graph net policy config p rules w f scenario (suc c.k) c.of_class g (pairs_of c.d) written known meets)
]
