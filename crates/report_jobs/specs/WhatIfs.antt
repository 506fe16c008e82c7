-- What `whatif` says of a network, a policy and a scenario.
use Rattle.std.specs.Prelude.{◌≡◌, ℕ, List}
use Rattle.net_base.specs.Network.{PlainNet}
use Rattle.policy_base.specs.Policies.{PlainPolicy}
use Rattle.config_base.specs.Configs.{PlainConfig}
use Rattle.evidence_base.specs.Made.{PlainCaseEvidence}
use Rattle.scenario_reader.specs.Spelled.{spelled as scenario_spelled}
use Rattle.scenarios.specs.declared.scenario.Scenario.{Scenario}
use Rattle.scenarios.specs.Scenarios.{failures_of}
use Rattle.impact_law.specs.declared.impact.WhatIf.{WhatIf}
use Rattle.impact_report.specs.Texts.{what_if_text}
use Rattle.whatif_report.specs.Moves.{IsWhatIf}
use Rattle.compile_jobs.specs.Compiling.{SaysOfThree}
use Rattle.run_base.specs.Said.{Said}
use Rattle.input_texts.specs.FaultLines.{scenario_line}

-- The text tells what each cut besides the scenario's failures changes for its prefix, and whom it moves.
pub record IsWhatIfText (net : PlainNet) (policy : PlainPolicy) (config : PlainConfig) (scenario : Scenario) (bytes : List ℕ) : Type 0 where
  pub what_if : WhatIf
  pub is : IsWhatIf net policy config (failures_of scenario) scenario.prefix what_if
  pub spelled : bytes ≡ what_if_text net config scenario.prefix what_if

-- that text for the configuration
abbrev pub WritesWhatIf : PlainNet → PlainPolicy → Scenario → PlainConfig → List PlainCaseEvidence → List ℕ → Type 0
WritesWhatIf net policy scenario config evidence bytes = IsWhatIfText net policy config scenario bytes

-- what is said of three texts
abbrev pub SaysOfTexts : List (List ℕ) → Said → Type 0
SaysOfTexts = SaysOfThree scenario_line scenario_spelled WritesWhatIf
