-- What a quiet world is.
use Rattle.std.specs.Prelude.{◌≡◌, ℕ, IsTrue, List, ◌∷◌, option_map}
use Rattle.net_base.specs.Network.{PlainNet, IsNet, is_peer, is_router}
use Rattle.net_base.specs.Prefixes.{PlainPrefix, IsPrefix}
use Rattle.policy_base.specs.Policies.{PlainPolicy, IsPolicyOf}
use Rattle.config_base.specs.declared.route.Route.{Route}
use Rattle.config_base.specs.Configs.{PlainConfig}
use Rattle.evidence_base.specs.Made.{PlainCaseEvidence}
use Rattle.outcome_base.specs.Outcomes.{Failures, offered}
use Rattle.evidence_law.specs.Passes.{Passes}
use Rattle.event_base.specs.declared.event.Event.{Event}
use Rattle.event_base.specs.Steps.{IsQuiet, opening, run}
use Rattle.event_base.specs.World.{World}
use Rattle.settled_law.specs.Settled.{IsFullyStable}
use Rattle.event_law.specs.Scenarios.{IsScenarioOf, routes_of, scenario_of}
use Rattle.event_base.specs.Speaking.{speakers_of}

-- after these events
abbrev pub world_after : PlainNet → PlainPolicy → PlainConfig → PlainPrefix → List Event → World Route
world_after net policy config p es = run (speakers_of net policy config p) es (opening (speakers_of net policy config p))

-- The lists of a world say what is down, cut and silent in it.
abbrev pub WorldsHaveScenarios : Type 0
WorldsHaveScenarios = (net : PlainNet) (policy : PlainPolicy) (config : PlainConfig) (p : PlainPrefix) (es : List Event) → IsNet net
    → IsScenarioOf net (world_after net policy config p es) (scenario_of net (world_after net policy config p es))

-- Whatever the configuration is, a quiet world holds what is fully stable for its scenario.
abbrev pub QuietWorldsAreSettled : Type 0
QuietWorldsAreSettled = (net : PlainNet) (policy : PlainPolicy) (config : PlainConfig) (p : PlainPrefix) (es : List Event) (f : Failures) → IsNet net
    → IsQuiet (world_after net policy config p es) → IsScenarioOf net (world_after net policy config p es) f
    → IsFullyStable net policy config f p (routes_of net (world_after net policy config p es))

-- And where the evidence passes, each peer has heard what it is offered.
abbrev pub QuietWorldsOffer : Type 0
QuietWorldsOffer = (net : PlainNet) (policy : PlainPolicy) (config : PlainConfig) (cs : List PlainCaseEvidence) → IsNet net → IsPolicyOf net policy → Passes net policy config cs
    → (p : PlainPrefix) → IsPrefix p → (es : List Event) (f : Failures)
    → IsQuiet (world_after net policy config p es) → IsScenarioOf net (world_after net policy config p es) f
    → (r q : ℕ) → IsTrue (is_router net r) → IsTrue (is_peer net q)
    → option_map (λ (m : Route). q ∷ m.path) ((world_after net policy config p es).heard r q) ≡ offered net policy config f p (routes_of net (world_after net policy config p es)) r q
