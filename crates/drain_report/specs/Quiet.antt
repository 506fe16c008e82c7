-- Failures in a quiet world that leave it quiet.
use Rattle.std.specs.Prelude.{List, [], ◌∷◌, ◌++◌}
use Rattle.net_base.specs.Network.{PlainNet, IsNet}
use Rattle.net_base.specs.Prefixes.{PlainPrefix, IsPrefix}
use Rattle.policy_base.specs.Policies.{PlainPolicy, IsPolicyOf}
use Rattle.config_base.specs.Configs.{PlainConfig}
use Rattle.evidence_base.specs.Made.{PlainCaseEvidence}
use Rattle.evidence_law.specs.Passes.{Passes}
use Rattle.outcome_base.specs.Outcomes.{Failures}
use Rattle.event_base.specs.declared.event.Event.{Event}
use Rattle.event_base.specs.declared.event.Event.TheVariants.{LinkDown, RouterDown}
use Rattle.event_base.specs.Steps.{IsQuiet}
use Rattle.event_law.specs.Laws.{world_after}
use Rattle.event_law.specs.Scenarios.{IsScenarioOf, routes_of}
use Rattle.impact_law.specs.declared.impact.Cut.{Cut}
use Rattle.impact_law.specs.declared.impact.Cut.TheVariants.{Link, Router}
use Rattle.drain_report.specs.DrainFree.{IsFree}
use Rattle.drain_report.specs.Uses.{IsOffRoutes}

-- the event in which it fails
abbrev pub failing : Cut → Event
failing (Link a b) = LinkDown a b
failing (Router r) = RouterDown r

-- Whatever the configuration is: in a quiet world, where a link or router fails over which no other router's route goes, no message waits after it.
abbrev pub UnusedFailuresAreQuiet : Type 0
UnusedFailuresAreQuiet = (net : PlainNet) (policy : PlainPolicy) (config : PlainConfig) (p : PlainPrefix) (es : List Event) (cut : Cut) → IsNet net
    → IsQuiet (world_after net policy config p es) → IsOffRoutes net (routes_of net (world_after net policy config p es)) cut
    → IsQuiet (world_after net policy config p (es ++ failing cut ∷ []))

-- And where the evidence passes, so it is for each that is free.
abbrev pub FreeFailuresAreQuiet : Type 0
FreeFailuresAreQuiet = (net : PlainNet) (policy : PlainPolicy) (config : PlainConfig) (cs : List PlainCaseEvidence) → IsNet net → IsPolicyOf net policy → Passes net policy config cs
    → (p : PlainPrefix) → IsPrefix p → (es : List Event) (f : Failures) (cut : Cut) → IsScenarioOf net (world_after net policy config p es) f
    → IsQuiet (world_after net policy config p es) → IsFree net policy config f p (routes_of net (world_after net policy config p es)) cut
    → IsQuiet (world_after net policy config p (es ++ failing cut ∷ []))
