-- What an audit that ended shows.
use Rattle.std.proofs.Common.{◌≡◌, ℕ, List, Option, Some, None, inl, inr, length, refl, sym, ap, subst, ◌∙◌}
use Rattle.net_base.specs.Network.{PlainNet, IsNet}
use Rattle.net_base.specs.Prefixes.{IsPrefix}
use Rattle.policy_base.specs.Policies.{IsPolicyOf, PlainPolicy}
use Rattle.evidence_verdicts.proofs.OneVerdict.{one_verdict}
use Rattle.evidence_verdicts.specs.declared.verdict.Verdict.{Verdict}
use Rattle.evidence_verdicts.specs.declared.verdict.Verdict.TheVariants.{Holds, Fails}
use Rattle.evidence_verdicts.specs.Verdicts.{IsVerdict as IsVerdictOnEvidence}
use Rattle.outcome_base.specs.Outcomes.{IsStable}
use Rattle.evidence_law.specs.Passes.{Passes}
use Rattle.scenarios.specs.Scenarios.{failures_of}
use Rattle.table_audit.proofs.Telling.{stable_is_told, stable_tables_are_right}
use Rattle.table_audit.specs.declared.verdict.AuditVerdict.{AuditVerdict}
use Rattle.table_audit.specs.declared.verdict.AuditVerdict.TheVariants.{Stable, Dead, Own, NotGiven, Better, Missing}
use Rattle.table_audit.specs.Verdicts.{IsVerdict}
use Rattle.run_base.specs.declared.outcome.Status.TheVariants.{CheckFails, Done}
use Rattle.run_base.specs.Said.{Said, failing, text}
use Rattle.run_base.proofs.Jobs.{out_is, status_is}
use Rattle.judging_jobs.specs.Asked.{Audited}
use Rattle.judging_jobs.specs.Audited.{SaysOfChecked, SaysOfLine, SaysOfRoutes}
use Rattle.judging_jobs.specs.Audits.{IsAudited, IsAuditFault}
use Rattle.judging_jobs.specs.AuditLines.{unstable_line}

-- the verdict without a line is `Stable`
unlined : (net : PlainNet) (v : AuditVerdict) → unstable_line net v ≡ None → v ≡ Stable
unlined net Stable h = refl
unlined net (Dead r) h = absurd cc
unlined net (Own r) h = absurd cc
unlined net (NotGiven r) h = absurd cc
unlined net (Better r z pref) h = absurd cc
unlined net (Missing r z) h = absurd cc

module _ (net : PlainNet) (policy : PlainPolicy) (a : Audited) where
  abbrev Routes : AuditVerdict → Type 0
  Routes = IsVerdict net policy a.config (failures_of a.scenario) a.scenario.prefix a.routes

  abbrev AreStable : Type 0
  AreStable = IsStable net policy a.config (failures_of a.scenario) a.scenario.prefix a.routes

  abbrev Line : Option (List ℕ) → Said → Type 0
  Line = SaysOfLine net policy a.config a.scenario a.routes

  -- ---- what a text shows

  module _ (rules : IsNet net) (fits : IsPolicyOf net policy) (prefix : IsPrefix a.scenario.prefix) (size : length a.routes ≡ length net.routers) (bytes : List ℕ) where
    by_line : (v : AuditVerdict) (o : Option (List ℕ)) → unstable_line net v ≡ o → Routes v → Line o (text bytes) → Passes net policy a.config a.evidence → IsAudited net policy a bytes
    by_line v None none is says passes =
        let stable = unlined net v none in
        let all : Routes Stable = subst Routes stable is in
        record {
          passes = passes;
          stable = (stable_is_told net policy a.config (failures_of a.scenario) a.scenario.prefix a.routes Stable size all).0 refl;
          right = stable_tables_are_right net policy a.config a.evidence rules fits passes a.scenario.prefix (failures_of a.scenario) a.routes prefix size all;
          report = says.report;
          reported = says.of;
          spelled = out_is _ _ says.told;
        }
    by_line v (Some line) some is says passes = absurd (let e = status_is _ _ says in cc)

    by_check : (v : Verdict) → IsVerdictOnEvidence net policy a.config a.evidence v → SaysOfChecked net policy a.config a.scenario a.routes v (text bytes) → IsAudited net policy a bytes
    by_check Holds is says = by_line says.verdict (unstable_line net says.verdict) refl says.is says.says is
    by_check (Fails rule shown) is says = absurd (let e = status_is _ _ says in cc)

    pub done_is : SaysOfRoutes net policy a.config a.evidence a.scenario a.routes (text bytes) → IsAudited net policy a bytes
    done_is says = by_check says.verdict says.is says.says

  -- ---- what a line shows

  module _ (line : List ℕ) where
    fault_by_line : (v : AuditVerdict) (o : Option (List ℕ)) → unstable_line net v ≡ o → Routes v → Line o (failing line) → Passes net policy a.config a.evidence → IsAuditFault net policy a line
    fault_by_line v None none is says passes = absurd (let e = status_is _ _ says.told in cc)
    fault_by_line v (Some l) some is says passes = inr (passes, v, is, some ∙ ap Some (sym (out_is _ _ says)))

    fault_by_check : (v : Verdict) → IsVerdictOnEvidence net policy a.config a.evidence v → SaysOfChecked net policy a.config a.scenario a.routes v (failing line) → IsAuditFault net policy a line
    fault_by_check Holds is says = fault_by_line says.verdict (unstable_line net says.verdict) refl says.is says.says is
    fault_by_check (Fails rule shown) is says = inl (rule, shown, is, out_is _ _ says)

    pub failing_is : SaysOfRoutes net policy a.config a.evidence a.scenario a.routes (failing line) → IsAuditFault net policy a line
    failing_is says = fault_by_check says.verdict says.is says.says

  -- ---- which status it ends with

  module _ (size : length a.routes ≡ length net.routers) (what : Said) where
    well_by_line : (v : AuditVerdict) (o : Option (List ℕ)) → unstable_line net v ≡ o → v ≡ Stable → Line o what → what.status ≡ Done
    well_by_line v None none stable says = status_is _ _ says.told
    well_by_line v (Some l) some stable says = absurd (let e : None ≡ Some l = sym (ap (unstable_line net) stable) ∙ some in cc)

    well_by_check : (v : Verdict) → v ≡ Holds → AreStable → SaysOfChecked net policy a.config a.scenario a.routes v what → what.status ≡ Done
    well_by_check Holds same stable says =
        well_by_line says.verdict (unstable_line net says.verdict) refl
        ((stable_is_told net policy a.config (failures_of a.scenario) a.scenario.prefix a.routes says.verdict size says.is).1 stable) says.says
    well_by_check (Fails rule shown) same stable says = absurd cc

    -- where the evidence passes and the routes are stable, it ends well
    pub ends_well : Passes net policy a.config a.evidence → AreStable → SaysOfRoutes net policy a.config a.evidence a.scenario a.routes what → what.status ≡ Done
    ends_well passes stable says = well_by_check says.verdict (one_verdict net policy a.config a.evidence says.verdict Holds says.is passes) stable says.says

    ill_by_line : (v : AuditVerdict) (o : Option (List ℕ)) → unstable_line net v ≡ o → Routes v → (AreStable → ⊥) → Line o what → what.status ≡ CheckFails
    ill_by_line v None none is never says =
        let all : Routes Stable = subst Routes (unlined net v none) is in
        absurd (never ((stable_is_told net policy a.config (failures_of a.scenario) a.scenario.prefix a.routes Stable size all).0 refl))
    ill_by_line v (Some l) some is never says = status_is _ _ says

    ill_by_check : (v : Verdict) → IsVerdictOnEvidence net policy a.config a.evidence v → (Passes net policy a.config a.evidence × AreStable → ⊥)
        → SaysOfChecked net policy a.config a.scenario a.routes v what
        → what.status ≡ CheckFails
    ill_by_check Holds is never says = ill_by_line says.verdict (unstable_line net says.verdict) refl says.is (λ stable. never (is, stable)) says.says
    ill_by_check (Fails rule shown) is never says = status_is _ _ says

    -- else it fails
    pub ends_ill : (Passes net policy a.config a.evidence × AreStable → ⊥) → SaysOfRoutes net policy a.config a.evidence a.scenario a.routes what → what.status ≡ CheckFails
    ends_ill never says = ill_by_check says.verdict says.is never says.says
