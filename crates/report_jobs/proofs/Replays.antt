-- What is told of a quiet world is a replay.
use Rattle.std.proofs.Common.{◌≡◌, ℕ, List, subst}
use Rattle.std.specs.Prelude.{IsTrue}
use Rattle.net_base.specs.Network.{PlainNet, IsNet}
use Rattle.net_base.specs.Prefixes.{PlainPrefix, IsPrefix}
use Rattle.policy_base.specs.Policies.{IsPolicyOf, PlainPolicy}
use Rattle.config_base.specs.Configs.{PlainConfig}
use Rattle.evidence_base.specs.Made.{PlainCaseEvidence}
use Rattle.evidence_law.specs.Passes.{Passes}
use Rattle.outcome_report.specs.Report.{IsReportOf}
use Rattle.settled_law.specs.Settled.{IsFullyStable}
use Rattle.scenarios.specs.declared.scenario.Scenario.{Scenario}
use Rattle.scenarios.specs.Scenarios.{failures_of}
use Rattle.event_reader.specs.declared.events.Events.{Events}
use Rattle.event_law.proofs.Waiting.{quiet_worlds_are_settled, routes_size}
use Rattle.event_law.specs.Laws.{world_after}
use Rattle.event_law.specs.Scenarios.{IsScenarioOf, routes_of}
use Rattle.trace_report.specs.Trace.{IsTraceOf}
use Rattle.trace_report.proofs.Replayed.{quiet_worlds_are_replayed}
use Rattle.report_jobs.specs.Replayed.{IsReplayed}

pub quiet_replays : (net : PlainNet) (policy : PlainPolicy) (config : PlainConfig) (cs : List PlainCaseEvidence) → IsNet net → IsPolicyOf net policy → Passes net policy config cs
    → (events : Events) → IsPrefix events.prefix → (bytes : List ℕ) (traced : IsTraceOf net policy config events.prefix events.events bytes) → IsTrue traced.quiet
    → (scenario : Scenario) → events.prefix ≡ scenario.prefix
    → IsScenarioOf net (world_after net policy config events.prefix events.events) (failures_of scenario)
    → IsReplayed net policy config scenario traced.report
quiet_replays net policy config cs rules kept passes events prefix bytes traced quiet scenario same failed =
    let w = world_after net policy config events.prefix events.events in
    let f = failures_of scenario in
    let still = traced.rests.0 quiet in
    let settled = quiet_worlds_are_settled net policy config events.prefix events.events f rules still failed in
    let reports = quiet_worlds_are_replayed net policy config cs rules kept passes events.prefix prefix events.events f still failed (routes_of net w) (routes_size net w) settled traced.report in
    record {
      outcome = routes_of net w;
      size = routes_size net w;
      settled = subst (λ (p : PlainPrefix). IsFullyStable net policy config f p (routes_of net w)) same settled;
      report = subst (λ (p : PlainPrefix). IsReportOf net policy config f p (routes_of net w) traced.report) same (reports.0 traced.shown);
    }
