-- On a configured network whose evidence passes routers settle in an order, and where no message waits it is at rest.
use Rattle.std.proofs.Common.{◌≡◌, ℕ, ◌≤◌, suc, Bool, true, List, [], ◌∷◌, ◌++◌, length, Option, Some, None, sym, ap, ◌∙◌, subst, inl, inr}
use Rattle.std.specs.Prelude.{option_map}
use Rattle.std.specs.Option.{option_and_then}
use Rattle.std.proofs.lemmas.Bool.{cond-true, ltb-true, or_cases, true≢false}
use Rattle.net_base.specs.Network.{PlainNet, IsNet, is_location, joins, linked}
use Rattle.net_base.specs.Prefixes.{PlainPrefix, IsPrefix}
use Rattle.policy_base.specs.Policies.{PlainPolicy, IsPolicyOf}
use Rattle.policy_base.specs.Governing.{is_origin}
use Rattle.config_base.specs.declared.route.Route.{Route}
use Rattle.config_base.specs.Configs.{PlainConfig}
use Rattle.config_base.specs.Lines.{class_of, import_of}
use Rattle.evidence_base.specs.Made.{PlainCaseEvidence}
use Rattle.outcome_base.specs.Outcomes.{Failures}
use Rattle.evidence_law.specs.Passes.{Passes}
use Rattle.evidence_law.proofs.Setting.{lines_of, network_of, pairs_of, setup_of}
use Rattle.routing_law.specs.Graph as graph
use Rattle.routing_law.specs.Spells as spelled
use Rattle.routing_law.proofs.Rounds.{exists}
use Rattle.settled_law.proofs.Fully.{names_differ}
use Rattle.settled_law.proofs.SettledLaw.{case_or_bare, settled_outcomes_are_one}
use Rattle.event_base.specs.declared.event.Event.{Event}
use Rattle.event_base.specs.Speaking.{extended, speakers_of, taken_by}
use Rattle.event_base.specs.Steps.{IsQuiet, opening, run}
use Rattle.event_base.specs.World.{Speakers, World}
use Rattle.rest_law.specs.Orders.{at_rest, rests}
use Rattle.event_law.proofs.Keeping.{opening-keeps, run-keeps}
use Rattle.rest_law.specs.Laws.{Lists, each_round}
use Rattle.rest_law.proofs.Fair.{fair_rounds, rounds_before}
use Rattle.rest_law.proofs.Present.{rounds_go_on}
use Rattle.event_law.proofs.Quiet.{are_speakers}
use Rattle.net_base.proofs.Links.{joins_ends}
use Rattle.std.specs.List.{list_any}
use Rattle.event_law.specs.Kept.{AreSpeakers, IsKept}
use Rattle.rest_law.specs.Rounds.{AreRounds, IsFair, deliveries, stretch}
use Rattle.rest_law.proofs.Graphs.{held_in}
use Rattle.rest_law.proofs.Ordered.{bare, bare_order, ordered}
use Rattle.rest_law.proofs.Failures.{SameFailures, same_run, same_self}
use Rattle.event_law.specs.Laws.{world_after}
use Rattle.event_law.specs.Scenarios.{IsScenarioOf, routes_of}
use Rattle.event_law.proofs.Waiting.{peers_hear_offers, quiet_worlds_are_settled, routes_size}
use Rattle.event_law.proofs.First.{NoLater}
use Rattle.rest_law.proofs.Choosers.{are_choosers}
use Rattle.rest_law.proofs.Ending.{HasOrder, run_on}
use Rattle.rest_law.specs.Rest.{ComesToRest, IsAtRest, rounds_enough}
use Rattle.rest_law.specs.Ways.{each_way}
use Rattle.rest_law.proofs.OfGraph.{are_of_graph, route_of, setup}

module _ (net : PlainNet) (policy : PlainPolicy) (config : PlainConfig) (p : PlainPrefix) (rules : IsNet net) (w : World Route) where
  abbrev S : Speakers Route
  S = speakers_of net policy config p

  abbrev AnOrder : Type 0
  AnOrder = (outcome : ℕ → Option Route) × HasOrder net policy config p w outcome

  -- over a graph whose lines these are
  module _ (f : Failures) (scenario : IsScenarioOf net w f) (class : ℕ) (of_class : class_of config p ≡ Some class) (g : graph.Graph) (tag : ℕ → _)
      (written : spelled.Written (network_of net (is_origin net policy p)) g tag (lines_of net config p class))
      (known : (l : ℕ) → is_origin net policy p l ≡ true → is_location net l ≡ true) (meets : graph.MeetsRules (network_of net (is_origin net policy p)) g) where
    over_graph : AnOrder
    over_graph =
        let within = setup net policy config p class rules of_class g tag written known w f scenario in
        let to = route_of net policy config p class rules of_class g tag written known in
        let settled = exists within written.formed meets in
        let has =
        ordered S w (taken_by net config p) (NoLater net) (λ (h : Route). length h.path) (are_choosers net policy config p rules) within to
        (are_of_graph net policy config p class rules of_class g tag written known w f scenario)
        (names_differ net (is_origin net policy p) rules) written.formed settled.0 meets settled.1 in
        (held_in S w to settled.0, record { rested = λ r t. cond-true (rests S w r) (at_rest S w r) (option_map to (settled.0 r)) t; routers = has.0; order = has.1 })

  -- without a class
  bare_over : class_of config p ≡ None → AnOrder
  bare_over free =
      let nothing : (r u : ℕ) (o : Option Route) → taken_by net config p r u o ≡ None =
      λ r u o. ap (option_and_then (λ (k : ℕ). option_and_then (λ (m : Route). option_map (extended r m) (import_of net config k r u m.path m.tag)) o))
      free in
      let has = bare_order S w (taken_by net config p) (NoLater net) (length net.routers) (λ r t. ltb-true r (length net.routers) t) nothing in (
        bare S w (taken_by net config p) (NoLater net) (length net.routers) (λ r t. ltb-true r (length net.routers) t) nothing,
        record
            { rested = λ r t. cond-true (rests S w r) (at_rest S w r) None t; routers = has.0; order = has.1 },
      )

-- each world has an order
pub has_order : (net : PlainNet) (policy : PlainPolicy) (config : PlainConfig) (cs : List PlainCaseEvidence) → IsNet net → IsPolicyOf net policy
    → Passes net policy config cs → (p : PlainPrefix) → IsPrefix p → (w : World Route) (f : Failures) → IsScenarioOf net w f
    → (outcome : ℕ → Option Route) × HasOrder net policy config p w outcome
has_order net policy config cs rules kept passes p prefix w f scenario = elim (case_or_bare net policy config cs rules kept passes f p prefix) [
  | inr free ↦ bare_over net policy config p rules w free
  | inl c ↦ (
      let g = (setup_of net f c.d).graph in
      let written = subst (λ (o : ℕ → Bool). spelled.Written (network_of net o) g (pairs_of c.d) (lines_of net config p (suc c.k))) c.same c.lines in
      let meets = subst (λ (o : ℕ → Bool). graph.MeetsRules (network_of net o) g) c.same c.numbers in
      let known : (l : ℕ) → is_origin net policy p l ≡ true → is_location net l ≡ true = λ l t. c.known l (ap (λ (o : ℕ → Bool). o l) c.same ∙ t) in
      over_graph net policy config p rules w f scenario (suc c.k) c.of_class g (pairs_of c.d) written known meets)
]

pub same_scenario : (net : PlainNet) (w v : World Route) (f : Failures) → SameFailures w v → IsScenarioOf net w f → IsScenarioOf net v f
same_scenario net w v f same scenario = record {
  dead = λ l. scenario.dead l ∙ ap (λ (d : ℕ → Bool). d l) (sym same.down);
  links = λ a b t. scenario.links a b t ∙ ap (λ (d : ℕ → ℕ → Bool). d a b) (sym same.cut);
  silent = λ r q t. scenario.silent r q t ∙ ap (λ (d : ℕ → ℕ → Bool). d r q) (sym same.silent);
}

pub still_scenario : (net : PlainNet) (policy : PlainPolicy) (config : PlainConfig) (p : PlainPrefix) (es : List Event) (f : Failures) (ds : List (ℕ × ℕ))
    → IsScenarioOf net (world_after net policy config p es) f → IsScenarioOf net (world_after net policy config p (es ++ deliveries ds)) f
still_scenario net policy config p es f ds scenario =
    let S = speakers_of net policy config p in
    let w : World Route = world_after net policy config p es in
    subst (λ (v : World Route). IsScenarioOf net v f) (run_on S es (deliveries ds) (opening S)) (same_scenario net w (run S (deliveries ds) w) f (same_run S ds w w (same_self S w)) scenario)

-- the directions of linked locations are listed
pub ways_listed : (links : List (ℕ × ℕ)) (a b : ℕ) → list_any (joins a b) links ≡ true → Lists (each_way links) a b
ways_listed [] a b h = absurd (true≢false (sym h))
ways_listed (l ∷ ls) a b h = elim (or_cases (joins a b l) (list_any (joins a b) ls) h) [
  | inl here ↦ elim (joins_ends a b l here) [
    | inl e ↦ inl (λ i. (e.0 i, e.1 i))
    | inr e ↦ inr (inl (λ i. (e.1 i, e.0 i)))
  ]
  | inr later ↦ inr (inr (ways_listed ls a b later))
]

module _ (net : PlainNet) (policy : PlainPolicy) (config : PlainConfig) (cs : List PlainCaseEvidence) (rules : IsNet net)
    (kept : IsPolicyOf net policy) (passes : Passes net policy config cs) (p : PlainPrefix) (prefix : IsPrefix p) (es : List Event) where
  abbrev Here : Speakers Route
  Here = speakers_of net policy config p

  abbrev before : World Route
  before = world_after net policy config p es

  abbrev after : List (ℕ × ℕ) → World Route
  after ds = world_after net policy config p (es ++ deliveries ds)

  -- where no message waits, all is at rest
  pub rest_of_quiet : (f : Failures) (ds : List (ℕ × ℕ)) → IsScenarioOf net before f → IsQuiet (after ds) → IsAtRest net policy config p f (after ds)
  rest_of_quiet f ds scenario quiet =
      let still = still_scenario net policy config p es f ds scenario in
      let settled = quiet_worlds_are_settled net policy config p (es ++ deliveries ds) f rules quiet still in
      record {
        quiet = quiet;
        settled = settled;
        alone = λ other size full. settled_outcomes_are_one net policy config cs rules kept passes p f prefix other (routes_of net (after ds)) size (routes_size net (after ds)) full settled;
        heard = λ r peer router at_peer. peers_hear_offers net policy config cs rules kept passes p prefix (es ++ deliveries ds) f quiet still r peer router at_peer;
      }

  speak : AreSpeakers Here
  speak = are_speakers net policy config p rules

  keeps : IsKept Here before
  keeps = run-keeps Here speak es (opening Here) (opening-keeps Here speak)

  listed : (a b : ℕ) → linked net a b ≡ true → Lists (each_way net.links) a b
  listed a b on = ways_listed net.links a b on

  -- where messages end after so many rounds
  module _ (ends : (ds : List (ℕ × ℕ)) → AreRounds Here (rounds_enough net) before ds → IsQuiet (after ds)) where
    rest_after : (f : Failures) (ds : List (ℕ × ℕ)) → IsScenarioOf net before f → AreRounds Here (rounds_enough net) before ds → IsAtRest net policy config p f (after ds)
    rest_after f ds scenario rounds = rest_of_quiet f ds scenario (ends ds rounds)

    rest_reached : (f : Failures) → IsScenarioOf net before f → (ds : List (ℕ × ℕ)) × IsAtRest net policy config p f (after ds)
    rest_reached f scenario =
        let ds = each_round Here (each_way net.links) (rounds_enough net) before in
        (ds, rest_after f ds scenario (rounds_go_on Here speak (each_way net.links) listed (rounds_enough net) before keeps))

    rest_kept : (f : Failures) (schedule : ℕ → ℕ × ℕ) → IsScenarioOf net before f → IsFair Here schedule → (n : ℕ) × ((m : ℕ) → n ≤ m → IsAtRest net policy config p f (after (stretch schedule 0 m)))
    rest_kept f schedule scenario fair =
        let all = fair_rounds Here speak schedule fair (each_way net.links) listed (rounds_enough net) before keeps 0 in
        (all.0, λ m le. rest_after f (stretch schedule 0 m) scenario (rounds_before Here schedule (rounds_enough net) all.0 m before le all.1))

-- Where messages end after so many rounds, whatever has happened, the network comes to rest.
pub rests_where_messages_end : (net : PlainNet) (policy : PlainPolicy) (config : PlainConfig) (cs : List PlainCaseEvidence) → IsNet net → IsPolicyOf net policy
    → Passes net policy config cs → (p : PlainPrefix) → IsPrefix p
    → ((es : List Event) (ds : List (ℕ × ℕ)) → AreRounds (speakers_of net policy config p) (rounds_enough net) (world_after net policy config p es) ds → IsQuiet (world_after net policy config p (es ++ deliveries ds)))
    → ComesToRest net policy config p
rests_where_messages_end net policy config cs rules kept passes p prefix ends = record {
  rounds = λ es f ds scenario rounds. rest_after net policy config cs rules kept passes p prefix es (ends es) f ds scenario rounds;
  reached = λ es f scenario. rest_reached net policy config cs rules kept passes p prefix es (ends es) f scenario;
  fair = λ es f schedule scenario fair. rest_kept net policy config cs rules kept passes p prefix es (ends es) f schedule scenario fair;
}
