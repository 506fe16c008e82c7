-- What the graphs of a compiled policy tell is what the policy promises.
use Rattle.std.proofs.Common.{◌≡◌, ◌<◌, ℕ, zero, suc, List, [], ◌∷◌, length, Some, sym, ap, ◌∙◌, subst, arith}
use Rattle.std.specs.Prelude.{slice_get}
use Rattle.std.proofs.lemmas.List.{length-map}
use Rattle.net_base.specs.Network.{IsNet, PlainNet}
use Rattle.policy_base.specs.declared.case.Case.{Case}
use Rattle.policy_base.specs.Policies.{IsPolicyOf, PlainPolicy, PlainStatement, statement_at}
use Rattle.policy_base.proofs.KnownCases.{case_known}
use Rattle.config_base.specs.Configs.{PlainConfig}
use Rattle.config_maker.proofs.CaseClasses.{case_count}
use Rattle.evidence_base.specs.Made.{PlainCaseEvidence}
use Rattle.evidence_law.specs.Passes.{Passes}
use Rattle.evidence_law.proofs.MadeCases.{case_listed, evidence_at}
use Rattle.promises_report.specs.Promises.{Promises}
use Rattle.promises_report.proofs.Keeping.{promises_are_kept}
use Rattle.promises_report.proofs.PromisesTelling.{tops_tell_promises}
use Rattle.promises_report.specs.Telling.{IsTold}
use Rattle.promises_text.specs.Texts.{promises_text}
use Rattle.promises_report.proofs.Casing.{told_size}
use Rattle.promises_report.specs.Cases.{AreTold, HaveOneStep}
use Rattle.promises_text.specs.Written.{IsTextOf}
use Rattle.report_jobs.specs.Promised.{IsOfCase, IsPromisesText}

told_at : (net : PlainNet) (ds : List PlainCaseEvidence) (xs : List Promises) (k : ℕ) (d : PlainCaseEvidence) (a : Promises) → AreTold net ds xs
    → slice_get ds k ≡ Some d → slice_get xs k ≡ Some a → IsTold net d a
told_at net [] xs k d a told at one = absurd (cc)
told_at net (e ∷ ds) [] k d a told at one = absurd told
told_at net (e ∷ ds) (b ∷ xs) zero d a told at one =
    let same_d : e ≡ d = cc in
    let same_a : b ≡ a = cc in
    subst (λ (x : PlainCaseEvidence). IsTold net x a) same_d (subst (λ (y : Promises). IsTold net e y) same_a told.0)
told_at net (e ∷ ds) (b ∷ xs) (suc k) d a told at one = told_at net ds xs k d a told.1 at one

module _ (net : PlainNet) (policy : PlainPolicy) (config : PlainConfig) (cs : List PlainCaseEvidence) (rules : IsNet net)
    (kept : IsPolicyOf net policy) (passes : Passes net policy config cs) where
  pub one_step : HaveOneStep cs
  one_step d at =
      let s = (case_known net policy at.0 d.case (case_listed net policy config cs passes.made at.0 d at.1)).statement in
      (passes.made.graphs at.0 d s.0 at.1 s.1).faithful.formed.one_step

  -- there are few of them
  pub few_cases : length cs < 4294967296
  few_cases = omega (arith, length-map cs (λ (d : PlainCaseEvidence). d.case), ap length passes.made.cases, case_count net policy, kept.rules.statements, kept.rules.prefixes)

  case_told : (k : ℕ) (d : PlainCaseEvidence) (s : PlainStatement) (a : Promises) → slice_get cs k ≡ Some d
      → statement_at policy d.case.statement ≡ Some s → IsTold net d a → IsOfCase net policy config k d.case s a
  case_told k d s a at number told =
      let tops = told.1 s (passes.made.graphs k d s at number) in
      subst (IsOfCase net policy config k d.case s) (sym told.2)
      (record {
        promised = tops_tell_promises net policy config cs rules kept passes k d s at number told.0 tops;
        kept = promises_are_kept net policy config cs rules kept passes k d s at number told.0 tops;
      })

  pub promised : (text : List ℕ) → IsTextOf net policy cs text → IsPromisesText net policy config text
  promised text is = record {
    promises = is.promises;
    size = sym (told_size net cs is.promises is.told) ∙ sym (length-map cs (λ (d : PlainCaseEvidence). d.case)) ∙ ap length passes.made.cases;
    each = λ k c s a at number one.
        let d = evidence_at net policy config cs passes.made k c at in
        subst (λ (e : Case). IsOfCase net policy config k e s a) d.2
        (case_told k d.0 s a d.1 (ap (λ (e : Case). statement_at policy e.statement) d.2 ∙ number) (told_at net cs is.promises k d.0 a is.told d.1 one));
    spelled = is.spelled ∙ ap (λ (xs : List Case). promises_text net policy xs is.promises) passes.made.cases;
  }
