-- The trace of a quiet world is a replay.
use Rattle.std.specs.Prelude.{◌≡◌, ◌↔◌, ℕ, List, length}
use Rattle.net_base.specs.Network.{PlainNet, IsNet}
use Rattle.net_base.specs.Prefixes.{PlainPrefix, IsPrefix}
use Rattle.policy_base.specs.Policies.{PlainPolicy, IsPolicyOf}
use Rattle.config_base.specs.Configs.{PlainConfig}
use Rattle.evidence_base.specs.Made.{PlainCaseEvidence}
use Rattle.outcome_base.specs.Outcomes.{Failures, Outcome}
use Rattle.evidence_law.specs.Passes.{Passes}
use Rattle.settled_law.specs.Settled.{IsFullyStable}
use Rattle.event_base.specs.declared.event.Event.{Event}
use Rattle.event_base.specs.Steps.{IsQuiet}
use Rattle.event_law.specs.Laws.{world_after}
use Rattle.event_law.specs.Scenarios.{IsScenarioOf}
use Rattle.outcome_report.specs.Report.{IsReport, IsReportOf}
use Rattle.trace_report.specs.Trace.{shown_by}

-- Where no message waits after some events, the report of what the world shows is that of the settled outcome of its scenario.
abbrev pub QuietWorldsAreReplayed : Type 0
QuietWorldsAreReplayed = (net : PlainNet) (policy : PlainPolicy) (config : PlainConfig) (cs : List PlainCaseEvidence) → IsNet net → IsPolicyOf net policy → Passes net policy config cs
    → (p : PlainPrefix) → IsPrefix p → (es : List Event) (f : Failures) → IsQuiet (world_after net policy config p es) → IsScenarioOf net (world_after net policy config p es) f
    → (outcome : Outcome) → length outcome ≡ length net.routers → IsFullyStable net policy config f p outcome
    → (text : List ℕ) → IsReport net policy config p (shown_by (world_after net policy config p es)) text ↔ IsReportOf net policy config f p outcome text
