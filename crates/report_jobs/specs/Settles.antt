-- What `settle` says of a network, a policy and events.
use Rattle.std.specs.Prelude.{ℕ, List}
use Rattle.net_base.specs.Network.{PlainNet}
use Rattle.policy_base.specs.Policies.{PlainPolicy}
use Rattle.config_base.specs.Configs.{PlainConfig}
use Rattle.evidence_base.specs.Made.{PlainCaseEvidence}
use Rattle.event_reader.specs.declared.events.Events.{Events}
use Rattle.event_reader.specs.Spelled.{spelled as events_spelled}
use Rattle.settle_report.specs.Settlement.{IsSettlementOf}
use Rattle.compile_jobs.specs.Compiling.{SaysOfThree}
use Rattle.run_base.specs.Said.{Said}
use Rattle.input_texts.specs.FaultLines.{events_line}

-- how the network comes to rest after the events, for the configuration
abbrev pub WritesSettlement : PlainNet → PlainPolicy → Events → PlainConfig → List PlainCaseEvidence → List ℕ → Type 0
WritesSettlement net policy events config evidence bytes = IsSettlementOf net policy config events.prefix events.events bytes

-- what is said of three texts
abbrev pub SaysOfTexts : List (List ℕ) → Said → Type 0
SaysOfTexts = SaysOfThree events_line events_spelled WritesSettlement
