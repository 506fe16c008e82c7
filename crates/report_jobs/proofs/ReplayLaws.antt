-- The job that replays.
use Rattle.std.proofs.Common.{◌≡◌, ℕ, List, subst, length}
use Rattle.net_base.specs.Network.{PlainNet, IsNet}
use Rattle.net_base.specs.Prefixes.{IsPrefix}
use Rattle.policy_base.specs.Policies.{IsPolicyOf, PlainPolicy}
use Rattle.config_base.specs.Configs.{PlainConfig}
use Rattle.evidence_base.specs.Made.{PlainCaseEvidence}
use Rattle.outcome_base.specs.Outcomes.{Outcome}
use Rattle.evidence_law.specs.Passes.{Passes}
use Rattle.outcome_report.proofs.Texts.{one_report}
use Rattle.outcome_report.specs.Report.{IsReportOf, shown_of}
use Rattle.scenario_reader.specs.Spelled.{spelled as scenario_spelled}
use Rattle.settled_law.proofs.SettledLaw.{settled_outcomes_are_one}
use Rattle.settled_law.specs.Settled.{IsFullyStable}
use Rattle.scenarios.specs.declared.scenario.Scenario.{Scenario}
use Rattle.scenarios.specs.Scenarios.{failures_of}
use Rattle.run_base.proofs.Jobs.{IsJob}
use Rattle.input_texts.specs.FaultLines.{scenario_line}
use Rattle.compile_jobs.specs.Compiled.{IsCompiled}
use Rattle.compile_jobs.proofs.ThirdText.{job_of_three}
use Rattle.report_jobs.specs.Replayed.{IsReplayed, SaysOfTexts, WritesReport}
use Rattle.scenario_reader.proofs.ReadPrefixes.{spelled_prefix}

-- one outcome is stable with ties broken
pub one_outcome : (net : PlainNet) (policy : PlainPolicy) (config : PlainConfig) (evidence : List PlainCaseEvidence) (scenario : Scenario) → IsNet net
    → IsPolicyOf net policy → IsPrefix scenario.prefix
    → Passes net policy config evidence → (a b : Outcome) → length a ≡ length net.routers → length b ≡ length net.routers
    → IsFullyStable net policy config (failures_of scenario) scenario.prefix a → IsFullyStable net policy config (failures_of scenario) scenario.prefix b → a ≡ b
one_outcome net policy config evidence scenario rules fits prefix passes =
    settled_outcomes_are_one net policy config evidence rules fits passes scenario.prefix (failures_of scenario) prefix

-- so there is one report
one_text : (net : PlainNet) (policy : PlainPolicy) (config : PlainConfig) (evidence : List PlainCaseEvidence) (scenario : Scenario) → IsNet net → IsPolicyOf net policy → IsPrefix scenario.prefix
    → IsCompiled net policy config evidence → (one other : List ℕ) → IsReplayed net policy config scenario one → IsReplayed net policy config scenario other → one ≡ other
one_text net policy config evidence scenario rules fits prefix compiled one other a b =
    let same = one_outcome net policy config evidence scenario rules fits prefix compiled.1 a.outcome b.outcome a.size b.size a.settled b.settled in
    let Reports : Outcome → Type 0 = λ outcome. IsReportOf net policy config (failures_of scenario) scenario.prefix outcome one in
    one_report net policy scenario.prefix (shown_of net policy config (failures_of scenario) scenario.prefix b.outcome) config one other (subst Reports same a.report) b.report

pub replay_job : (Refuses Checks : Type 0) → Refuses → IsJob Refuses Checks SaysOfTexts
replay_job Refuses Checks refuses =
    job_of_three scenario_line scenario_spelled WritesReport Refuses Checks refuses
    (λ net policy rules fits z scenario is config evidence. one_text net policy config evidence scenario rules fits (spelled_prefix net z scenario is))
