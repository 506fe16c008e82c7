-- The job that tells what carries nothing.
use Rattle.std.proofs.Common.{◌≡◌, ℕ, List, sym, ap, ◌∙◌, subst}
use Rattle.net_base.specs.Network.{PlainNet, IsNet}
use Rattle.net_base.specs.Prefixes.{IsPrefix}
use Rattle.policy_base.specs.Policies.{IsPolicyOf, PlainPolicy}
use Rattle.config_base.specs.Configs.{PlainConfig}
use Rattle.evidence_base.specs.Made.{PlainCaseEvidence}
use Rattle.outcome_base.specs.Outcomes.{Outcome}
use Rattle.scenario_reader.specs.Spelled.{spelled as scenario_spelled}
use Rattle.scenario_reader.proofs.ReadPrefixes.{spelled_prefix}
use Rattle.settled_law.proofs.SettledLaw.{settled_outcomes_are_one}
use Rattle.scenarios.specs.declared.scenario.Scenario.{Scenario}
use Rattle.scenarios.specs.Scenarios.{failures_of}
use Rattle.drain_report.specs.DrainFree.{IsDrain}
use Rattle.drain_report.proofs.Freeing.{drains_are_one}
use Rattle.drain_report.specs.Texts.{drain_text}
use Rattle.run_base.proofs.Jobs.{IsJob}
use Rattle.input_texts.specs.FaultLines.{scenario_line}
use Rattle.compile_jobs.specs.Compiled.{IsCompiled}
use Rattle.compile_jobs.proofs.ThirdText.{job_of_three}
use Rattle.report_jobs.specs.Drained.{IsDrained, SaysOfTexts, WritesDrain}

-- one outcome settles, which has one drain, and that has one text
one_text : (net : PlainNet) (policy : PlainPolicy) (config : PlainConfig) (evidence : List PlainCaseEvidence) (scenario : Scenario) → IsNet net → IsPolicyOf net policy → IsPrefix scenario.prefix
    → IsCompiled net policy config evidence → (one other : List ℕ) → IsDrained net policy config scenario one → IsDrained net policy config scenario other → one ≡ other
one_text net policy config evidence scenario rules fits prefix compiled one other a b =
    let f = failures_of scenario in
    let same = settled_outcomes_are_one net policy config evidence rules fits compiled.1 scenario.prefix f prefix a.outcome b.outcome a.size b.size a.settled b.settled in
    let mine : IsDrain net policy config f scenario.prefix b.outcome a.drain = subst (λ (outcome : Outcome). IsDrain net policy config f scenario.prefix outcome a.drain) same a.is in
    a.spelled ∙ ap (drain_text net config scenario.prefix) (drains_are_one net policy config f scenario.prefix b.outcome a.drain b.drain mine b.is) ∙ sym b.spelled

pub drain_job : (Refuses Checks : Type 0) → Refuses → IsJob Refuses Checks SaysOfTexts
drain_job Refuses Checks refuses =
    job_of_three scenario_line scenario_spelled WritesDrain Refuses Checks refuses
    (λ net policy rules fits z scenario is config evidence. one_text net policy config evidence scenario rules fits (spelled_prefix net z scenario is))
