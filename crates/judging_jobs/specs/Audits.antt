-- What it means that an audit ends well, and why it doesn't.
use Rattle.std.specs.Prelude.{◌≡◌, ◌⊎◌, ℕ, List, ◌++◌, Some}
use Rattle.net_base.specs.Network.{PlainNet}
use Rattle.policy_base.specs.Policies.{PlainPolicy}
use Rattle.evidence_verdicts.specs.declared.rule.CheckRule.{CheckRule}
use Rattle.evidence_verdicts.specs.declared.verdict.Shown.{Shown}
use Rattle.evidence_verdicts.specs.declared.verdict.Verdict.TheVariants.{Fails}
use Rattle.evidence_verdicts.specs.Verdicts.{IsVerdict as IsVerdictOnEvidence}
use Rattle.outcome_base.specs.Outcomes.{IsStable}
use Rattle.outcome_base.specs.Right.{IsRightOutcome}
use Rattle.evidence_law.specs.Passes.{Passes}
use Rattle.outcome_report.specs.Report.{IsReportOf}
use Rattle.scenarios.specs.Scenarios.{failures_of}
use Rattle.table_audit.specs.declared.verdict.AuditVerdict.{AuditVerdict}
use Rattle.table_audit.specs.Verdicts.{IsVerdict}
use Rattle.judging_jobs.specs.VerdictLines.{fails_line}
use Rattle.judging_jobs.specs.Asked.{Audited}
use Rattle.judging_jobs.specs.AuditLines.{stable_line, unstable_line}

-- The evidence passes, and the routes are stable. So they are right: each claimed source of them has an allowed path of the best rank
-- that survives, and none only where none survives. The text says so, and goes on with their report.
pub record IsAudited (net : PlainNet) (policy : PlainPolicy) (a : Audited) (bytes : List ℕ) : Type 0 where
  pub passes : Passes net policy a.config a.evidence
  pub stable : IsStable net policy a.config (failures_of a.scenario) a.scenario.prefix a.routes
  pub right : IsRightOutcome net policy a.config (failures_of a.scenario) a.scenario.prefix a.routes
  pub report : List ℕ
  pub reported : IsReportOf net policy a.config (failures_of a.scenario) a.scenario.prefix a.routes report
  pub spelled : bytes ≡ stable_line ++ report

-- the line of the first rule that fails of the evidence
abbrev pub IsEvidenceFault : PlainNet → PlainPolicy → Audited → List ℕ → Type 0
IsEvidenceFault net policy a line = (rule : CheckRule) × (shown : Shown) × IsVerdictOnEvidence net policy a.config a.evidence (Fails rule shown) × (line ≡ fails_line rule shown)

-- the evidence passes, and it is the line of the first router that isn't stable
abbrev pub IsRouteFault : PlainNet → PlainPolicy → Audited → List ℕ → Type 0
IsRouteFault net policy a line =
    Passes net policy a.config a.evidence × (v : AuditVerdict) × IsVerdict net policy a.config (failures_of a.scenario) a.scenario.prefix a.routes v × (unstable_line net v ≡ Some line)

-- why an audit fails
abbrev pub IsAuditFault : PlainNet → PlainPolicy → Audited → List ℕ → Type 0
IsAuditFault net policy a line = IsEvidenceFault net policy a line ⊎ IsRouteFault net policy a line
