-- What a command writes that compiles the policy and answers what a third text asks.
use Rattle.std.specs.Prelude.{ℕ, List}
use Rattle.net_base.specs.Network.{PlainNet}
use Rattle.policy_base.specs.Policies.{PlainPolicy}
use Rattle.config_base.specs.Configs.{PlainConfig}
use Rattle.evidence_base.specs.Made.{PlainCaseEvidence}
use Rattle.event_reader.specs.declared.events.Events.{Events}
use Rattle.scenarios.specs.declared.scenario.Scenario.{Scenario}
use Rattle.report_jobs.specs.Drained.{WritesDrain}
use Rattle.report_jobs.specs.Replayed.{WritesReport}
use Rattle.report_jobs.specs.Settles.{WritesSettlement}
use Rattle.report_jobs.specs.Spread.{WritesMultipath}
use Rattle.report_jobs.specs.Traced.{WritesTrace}
use Rattle.report_jobs.specs.Waits.{WritesWaiting}
use Rattle.report_jobs.specs.WhatIfs.{WritesWhatIf}
use Rattle.propane_run.specs.declared.command.Course.{Course}
use Rattle.propane_run.specs.declared.command.Course.TheVariants.{Trace, Settle, Waiting}
use Rattle.propane_run.specs.declared.command.Outlook.{Outlook}
use Rattle.propane_run.specs.declared.command.Outlook.TheVariants.{Replay, Drain, WhatIf, Multipath}

-- under a scenario
abbrev pub WritesUnder : Outlook → PlainNet → PlainPolicy → Scenario → PlainConfig → List PlainCaseEvidence → List ℕ → Type 0
WritesUnder Replay = WritesReport
WritesUnder Drain = WritesDrain
WritesUnder WhatIf = WritesWhatIf
WritesUnder Multipath = WritesMultipath

-- after events
abbrev pub WritesAfter : Course → PlainNet → PlainPolicy → Events → PlainConfig → List PlainCaseEvidence → List ℕ → Type 0
WritesAfter Trace = WritesTrace
WritesAfter Settle = WritesSettlement
WritesAfter Waiting = WritesWaiting
