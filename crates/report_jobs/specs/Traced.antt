-- What `trace` says of a network, a policy and events.
use Rattle.std.specs.Prelude.{ℕ, List}
use Rattle.net_base.specs.Network.{PlainNet}
use Rattle.net_base.specs.Prefixes.{PlainPrefix}
use Rattle.net_base.specs.Sets.{set_of}
use Rattle.policy_base.specs.Policies.{PlainPolicy}
use Rattle.config_base.specs.Configs.{PlainConfig}
use Rattle.evidence_base.specs.Made.{PlainCaseEvidence}
use Rattle.config_base.specs.declared.route.Route.{Route}
use Rattle.event_base.specs.World.{World}
use Rattle.event_reader.specs.declared.events.Events.{Events}
use Rattle.event_reader.specs.Spelled.{spelled as events_spelled}
use Rattle.scenarios.specs.declared.scenario.Scenario.{Scenario}
use Rattle.event_law.specs.Scenarios.{scenario_of}
use Rattle.trace_report.specs.Trace.{IsTraceOf}
use Rattle.compile_jobs.specs.Compiling.{SaysOfThree}
use Rattle.run_base.specs.Said.{Said}
use Rattle.input_texts.specs.FaultLines.{events_line}

-- the trace of the events for the configuration
abbrev pub WritesTrace : PlainNet → PlainPolicy → Events → PlainConfig → List PlainCaseEvidence → List ℕ → Type 0
WritesTrace net policy events config evidence bytes = IsTraceOf net policy config events.prefix events.events bytes

-- what is said of three texts
abbrev pub SaysOfTexts : List (List ℕ) → Said → Type 0
SaysOfTexts = SaysOfThree events_line events_spelled WritesTrace

-- the scenario of what has failed in a world, for a prefix
abbrev pub scenario_in : PlainNet → PlainPrefix → World Route → Scenario
scenario_in net p w = record { prefix = p; dead = set_of w.down; dead_links = (scenario_of net w).dead_links; silent = (scenario_of net w).silent }
