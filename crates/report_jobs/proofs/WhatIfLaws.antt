-- The job that tells what cuts change besides a scenario's failures.
use Rattle.std.proofs.Common.{◌≡◌, ℕ, List, sym, ap, ◌∙◌}
use Rattle.net_base.specs.Network.{PlainNet, IsNet}
use Rattle.net_base.specs.Prefixes.{IsPrefix}
use Rattle.policy_base.specs.Policies.{IsPolicyOf, PlainPolicy}
use Rattle.config_base.specs.Configs.{PlainConfig}
use Rattle.evidence_base.specs.Made.{PlainCaseEvidence}
use Rattle.scenario_reader.specs.Spelled.{spelled as scenario_spelled}
use Rattle.scenario_reader.proofs.ReadPrefixes.{spelled_prefix}
use Rattle.scenarios.specs.declared.scenario.Scenario.{Scenario}
use Rattle.scenarios.specs.Scenarios.{failures_of}
use Rattle.impact_report.specs.Texts.{what_if_text}
use Rattle.whatif_report.proofs.OneWhatIf.{what_ifs_are_one}
use Rattle.run_base.proofs.Jobs.{IsJob}
use Rattle.input_texts.specs.FaultLines.{scenario_line}
use Rattle.compile_jobs.specs.Compiled.{IsCompiled}
use Rattle.compile_jobs.proofs.ThirdText.{job_of_three}
use Rattle.report_jobs.specs.WhatIfs.{IsWhatIfText, SaysOfTexts, WritesWhatIf}

-- what is compiled has one such text
one_text : (net : PlainNet) (policy : PlainPolicy) (config : PlainConfig) (evidence : List PlainCaseEvidence) (scenario : Scenario) → IsNet net → IsPolicyOf net policy → IsPrefix scenario.prefix
    → IsCompiled net policy config evidence → (one other : List ℕ) → IsWhatIfText net policy config scenario one → IsWhatIfText net policy config scenario other → one ≡ other
one_text net policy config evidence scenario rules fits prefix compiled one other a b =
    let same = what_ifs_are_one net policy config evidence rules fits compiled.1 (failures_of scenario) scenario.prefix prefix a.what_if b.what_if a.is b.is in
    a.spelled ∙ ap (what_if_text net config scenario.prefix) same ∙ sym b.spelled

pub whatif_job : (Refuses Checks : Type 0) → Refuses → IsJob Refuses Checks SaysOfTexts
whatif_job Refuses Checks refuses =
    job_of_three scenario_line scenario_spelled WritesWhatIf Refuses Checks refuses
    (λ net policy rules fits z scenario is config evidence. one_text net policy config evidence scenario rules fits (spelled_prefix net z scenario is))
