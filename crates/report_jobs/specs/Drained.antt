-- What `drain` says of a network, a policy and a scenario.
use Rattle.std.specs.Prelude.{◌≡◌, ℕ, List, length}
use Rattle.net_base.specs.Network.{PlainNet}
use Rattle.policy_base.specs.Policies.{PlainPolicy}
use Rattle.config_base.specs.Configs.{PlainConfig}
use Rattle.evidence_base.specs.Made.{PlainCaseEvidence}
use Rattle.outcome_base.specs.Outcomes.{Outcome}
use Rattle.scenario_reader.specs.Spelled.{spelled as scenario_spelled}
use Rattle.settled_law.specs.Settled.{IsFullyStable}
use Rattle.scenarios.specs.declared.scenario.Scenario.{Scenario}
use Rattle.scenarios.specs.Scenarios.{failures_of}
use Rattle.drain_report.specs.DrainFree.{IsDrain}
use Rattle.drain_report.specs.declared.drained.Drain.{Drain}
use Rattle.drain_report.specs.Texts.{drain_text}
use Rattle.compile_jobs.specs.Compiling.{SaysOfThree}
use Rattle.run_base.specs.Said.{Said}
use Rattle.input_texts.specs.FaultLines.{scenario_line}

-- The text tells what is free in an outcome of the scenario's prefix, which is stable under its failures, with ties broken.
pub record IsDrained (net : PlainNet) (policy : PlainPolicy) (config : PlainConfig) (scenario : Scenario) (bytes : List ℕ) : Type 0 where
  pub outcome : Outcome
  pub size : length outcome ≡ length net.routers
  pub settled : IsFullyStable net policy config (failures_of scenario) scenario.prefix outcome
  pub drain : Drain
  pub is : IsDrain net policy config (failures_of scenario) scenario.prefix outcome drain
  pub spelled : bytes ≡ drain_text net config scenario.prefix drain

-- that text for the configuration
abbrev pub WritesDrain : PlainNet → PlainPolicy → Scenario → PlainConfig → List PlainCaseEvidence → List ℕ → Type 0
WritesDrain net policy scenario config evidence bytes = IsDrained net policy config scenario bytes

-- what is said of three texts
abbrev pub SaysOfTexts : List (List ℕ) → Said → Type 0
SaysOfTexts = SaysOfThree scenario_line scenario_spelled WritesDrain
