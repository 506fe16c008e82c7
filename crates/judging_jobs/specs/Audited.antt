-- What `audit` says of a network, a policy, a configuration, evidence, a scenario and tables.
use Rattle.std.specs.Prelude.{◌≡◌, ℕ, List, [], ◌∷◌, ◌++◌, Option, Some, None}
use Rattle.net_base.specs.Network.{PlainNet}
use Rattle.policy_base.specs.Policies.{PlainPolicy}
use Rattle.config_base.specs.Configs.{PlainConfig}
use Rattle.evidence_base.specs.Made.{PlainCaseEvidence}
use Rattle.evidence_verdicts.specs.declared.verdict.Verdict.{Verdict}
use Rattle.evidence_verdicts.specs.declared.verdict.Verdict.TheVariants.{Holds, Fails}
use Rattle.evidence_verdicts.specs.Verdicts.{IsVerdict as IsVerdictOnEvidence}
use Rattle.outcome_base.specs.Outcomes.{Outcome}
use Rattle.outcome_report.specs.Report.{IsReportOf}
use Rattle.scenarios.specs.declared.scenario.Scenario.{Scenario}
use Rattle.scenarios.specs.Scenarios.{failures_of}
use Rattle.table_audit.specs.declared.verdict.AuditVerdict.{AuditVerdict}
use Rattle.table_audit.specs.Verdicts.{IsVerdict}
use Rattle.run_base.specs.Said.{Said, text, failing}
use Rattle.input_texts.specs.Texts.{OfAllTexts, OfPairTexts, OfScenarioText, OfTablesText}
use Rattle.judging_jobs.specs.VerdictLines.{fails_line}
use Rattle.judging_jobs.specs.AuditLines.{stable_line, unstable_line}

-- that the routes are stable, and their report
pub record SaysStable (net : PlainNet) (policy : PlainPolicy) (config : PlainConfig) (scenario : Scenario) (routes : Outcome) (what : Said) : Type 0 where
  pub report : List ℕ
  pub of : IsReportOf net policy config (failures_of scenario) scenario.prefix routes report
  pub told : what ≡ text (stable_line ++ report)

-- that, or the line of a router that isn't
abbrev pub SaysOfLine : PlainNet → PlainPolicy → PlainConfig → Scenario → Outcome → Option (List ℕ) → Said → Type 0
SaysOfLine net policy config scenario routes None what = SaysStable net policy config scenario routes what
SaysOfLine net policy config scenario routes (Some line) what = what ≡ failing line

-- what is said of routes by their verdict
pub record SaysOfPassing (net : PlainNet) (policy : PlainPolicy) (config : PlainConfig) (scenario : Scenario) (routes : Outcome) (what : Said) : Type 0 where
  pub verdict : AuditVerdict
  pub is : IsVerdict net policy config (failures_of scenario) scenario.prefix routes verdict
  pub says : SaysOfLine net policy config scenario routes (unstable_line net verdict) what

-- by the verdict on the evidence: the first rule that fails, or where it passes what is said of the routes
abbrev pub SaysOfChecked : PlainNet → PlainPolicy → PlainConfig → Scenario → Outcome → Verdict → Said → Type 0
SaysOfChecked net policy config scenario routes Holds what = SaysOfPassing net policy config scenario routes what
SaysOfChecked net policy config scenario routes (Fails rule shown) what = what ≡ failing (fails_line rule shown)

-- what is said of routes: the evidence is judged first
pub record SaysOfRoutes (net : PlainNet) (policy : PlainPolicy) (config : PlainConfig) (evidence : List PlainCaseEvidence) (scenario : Scenario) (routes : Outcome) (what : Said) : Type 0 where
  pub verdict : Verdict
  pub is : IsVerdictOnEvidence net policy config evidence verdict
  pub says : SaysOfChecked net policy config scenario routes verdict what

-- what is said of the texts of a scenario and of tables
abbrev pub SaysUnder : List ℕ → List ℕ → PlainNet → PlainPolicy → PlainConfig → List PlainCaseEvidence → Said → Type 0
SaysUnder scenario_text tables_text net policy config evidence = OfScenarioText (λ scenario. OfTablesText (SaysOfRoutes net policy config evidence scenario) net tables_text) net scenario_text

-- of those after the topology's and the policy's
abbrev pub SaysOfPolicy : List ℕ → List ℕ → List ℕ → List ℕ → PlainNet → PlainPolicy → Said → Type 0
SaysOfPolicy config_text evidence_text scenario_text tables_text net policy what = OfPairTexts (SaysUnder scenario_text tables_text net policy) config_text evidence_text what

abbrev pub SaysOfMore : List (List ℕ) → PlainNet → PlainPolicy → Said → Type 0
SaysOfMore (config_text ∷ evidence_text ∷ scenario_text ∷ tables_text ∷ []) = SaysOfPolicy config_text evidence_text scenario_text tables_text
SaysOfMore _ = λ net policy what. ⊥

-- and of six texts
abbrev pub SaysOfTexts : List (List ℕ) → Said → Type 0
SaysOfTexts = OfAllTexts SaysOfMore
