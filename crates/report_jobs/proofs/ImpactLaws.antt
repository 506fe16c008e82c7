-- The job that tells what single cuts change.
use Rattle.std.proofs.Common.{◌≡◌, ℕ, List, sym, ap, ◌∙◌}
use Rattle.net_base.specs.Network.{PlainNet}
use Rattle.net_base.specs.Prefixes.{PlainPrefix}
use Rattle.policy_base.specs.Policies.{PlainPolicy}
use Rattle.config_base.specs.Configs.{PlainConfig}
use Rattle.run_base.proofs.Jobs.{IsJob}
use Rattle.compile_jobs.proofs.Compiling.{job_of_compiled}
use Rattle.outcome_base.specs.Outcomes.{no_failures}
use Rattle.impact_law.proofs.OneImpact.{impacts_are_one}
use Rattle.impact_report.specs.Texts.{impact_text}
use Rattle.report_jobs.specs.Impacts.{IsImpactText, SaysOfTexts, WritesImpact}

-- a configuration and a prefix have one such text
pub one_text : (net : PlainNet) (policy : PlainPolicy) (config : PlainConfig) (p : PlainPrefix) (one other : List ℕ)
    → IsImpactText net policy config p one → IsImpactText net policy config p other → one ≡ other
one_text net policy config p one other a b = a.spelled ∙ ap (impact_text net config p) (impacts_are_one net policy no_failures p a.impact b.impact a.is b.is) ∙ sym b.spelled

pub impact_job : (p : PlainPrefix) (Refuses Checks : Type 0) → Refuses → IsJob Refuses Checks (SaysOfTexts p)
impact_job p Refuses Checks refuses = job_of_compiled (λ net policy. WritesImpact net policy p) Refuses Checks refuses (λ net policy config evidence. one_text net policy config p)
