-- What is told of a network that comes to rest after some events.
use Rattle.std.specs.Prelude.{◌≡◌, ℕ, ◌≤◌, List, ◌++◌, length}
use Rattle.std.specs.List.{flat_map}
use Rattle.net_base.specs.Network.{PlainNet}
use Rattle.net_base.specs.Prefixes.{PlainPrefix}
use Rattle.policy_base.specs.Policies.{PlainPolicy}
use Rattle.config_base.specs.declared.route.Route.{Route}
use Rattle.config_base.specs.Configs.{PlainConfig}
use Rattle.outcome_base.specs.Outcomes.{Failures}
use Rattle.event_base.specs.declared.event.Event.{Event}
use Rattle.event_base.specs.Speaking.{speakers_of}
use Rattle.event_base.specs.Steps.{opening}
use Rattle.event_base.specs.World.{World}
use Rattle.event_rounds.specs.Resting.{RestsIn, rounds_in, world_in}
use Rattle.outcome_report.specs.Report.{IsReportOf}
use Rattle.rest_law.specs.Rest.{IsAtRest, rounds_enough}
use Rattle.settle_report.specs.Lines.{deliveries_line, rounds_line}
use Rattle.trace_report.specs.Lines.{refused_line}
use Rattle.trace_report.specs.Refusals.{refused_from}
use Rattle.event_law.specs.Laws.{world_after}
use Rattle.event_law.specs.Scenarios.{IsScenarioOf, routes_of}

module _ (net : PlainNet) (policy : PlainPolicy) (config : PlainConfig) (p : PlainPrefix) (es : List Event) where
  -- so many rounds after these events: the deliveries, and the world after them
  abbrev pub deliveries_in : ℕ → List (ℕ × ℕ)
  deliveries_in rounds = rounds_in net.links (speakers_of net policy config p) rounds (world_after net policy config p es)

  abbrev pub world_at : ℕ → World Route
  world_at rounds = world_in net.links (speakers_of net policy config p) rounds (world_after net policy config p es)

  -- The text tells which of the events, from the opening on, were refused; after how many rounds no message waits, and how many were
  -- delivered in them; and then what all hold.
  pub record IsSettlementOf (text : List ℕ) : Type 0 where
    pub rounds : ℕ
    -- After these rounds no message waits, and after fewer of them some does.
    pub first : RestsIn net.links (speakers_of net policy config p) rounds (world_after net policy config p es)
    -- They are no more than are enough for the network.
    pub enough : rounds ≤ rounds_enough net
    -- Then the network is at rest, where f is what the events left down, cut and silent,
    pub rests : (f : Failures) → IsScenarioOf net (world_after net policy config p es) f → IsAtRest net policy config p f (world_at rounds)
    pub report : List ℕ
    -- and the report is that of the one outcome that is settled under f.
    pub shown : (f : Failures) → IsScenarioOf net (world_after net policy config p es) f → IsReportOf net policy config f p (routes_of net (world_at rounds)) report
    pub spelled : text ≡
        flat_map refused_line (refused_from (speakers_of net policy config p) 1 es (opening (speakers_of net policy config p)))
        ++ rounds_line rounds ++ deliveries_line (length (deliveries_in rounds)) ++ report
