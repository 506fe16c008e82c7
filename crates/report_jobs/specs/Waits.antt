-- What `waiting` says of a network, a policy and events.
use Rattle.std.specs.Prelude.{ℕ, List}
use Rattle.net_base.specs.Network.{PlainNet}
use Rattle.policy_base.specs.Policies.{PlainPolicy}
use Rattle.config_base.specs.Configs.{PlainConfig}
use Rattle.evidence_base.specs.Made.{PlainCaseEvidence}
use Rattle.event_reader.specs.declared.events.Events.{Events}
use Rattle.event_reader.specs.Spelled.{spelled as events_spelled}
use Rattle.waiting_report.specs.Waiting.{IsWaitingAfter}
use Rattle.compile_jobs.specs.Compiling.{SaysOfThree}
use Rattle.run_base.specs.Said.{Said}
use Rattle.input_texts.specs.FaultLines.{events_line}

-- what waits after the events, for the configuration
abbrev pub WritesWaiting : PlainNet → PlainPolicy → Events → PlainConfig → List PlainCaseEvidence → List ℕ → Type 0
WritesWaiting net policy events config evidence bytes = IsWaitingAfter net policy config events.prefix events.events bytes

-- what is said of three texts
abbrev pub SaysOfTexts : List (List ℕ) → Said → Type 0
SaysOfTexts = SaysOfThree events_line events_spelled WritesWaiting
