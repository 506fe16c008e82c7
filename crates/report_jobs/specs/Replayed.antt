-- What `replay` says of a network, a policy and a scenario.
use Rattle.std.specs.Prelude.{◌≡◌, ℕ, List, length}
use Rattle.net_base.specs.Network.{PlainNet}
use Rattle.policy_base.specs.Policies.{PlainPolicy}
use Rattle.config_base.specs.Configs.{PlainConfig}
use Rattle.evidence_base.specs.Made.{PlainCaseEvidence}
use Rattle.outcome_base.specs.Outcomes.{Outcome}
use Rattle.outcome_report.specs.Report.{IsReportOf}
use Rattle.scenario_reader.specs.Spelled.{spelled as scenario_spelled}
use Rattle.settled_law.specs.Settled.{IsFullyStable}
use Rattle.scenarios.specs.declared.scenario.Scenario.{Scenario}
use Rattle.scenarios.specs.Scenarios.{failures_of}
use Rattle.compile_jobs.specs.Compiling.{SaysOfThree}
use Rattle.run_base.specs.Said.{Said}
use Rattle.input_texts.specs.FaultLines.{scenario_line}

-- The text is the report of an outcome of the scenario's prefix, which is stable under its failures, with ties broken.
pub record IsReplayed (net : PlainNet) (policy : PlainPolicy) (config : PlainConfig) (scenario : Scenario) (bytes : List ℕ) : Type 0 where
  pub outcome : Outcome
  pub size : length outcome ≡ length net.routers
  pub settled : IsFullyStable net policy config (failures_of scenario) scenario.prefix outcome
  pub report : IsReportOf net policy config (failures_of scenario) scenario.prefix outcome bytes

-- that report for the configuration
abbrev pub WritesReport : PlainNet → PlainPolicy → Scenario → PlainConfig → List PlainCaseEvidence → List ℕ → Type 0
WritesReport net policy scenario config evidence bytes = IsReplayed net policy config scenario bytes

-- what is said of three texts
abbrev pub SaysOfTexts : List (List ℕ) → Said → Type 0
SaysOfTexts = SaysOfThree scenario_line scenario_spelled WritesReport
