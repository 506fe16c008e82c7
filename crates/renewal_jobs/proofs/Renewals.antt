-- What is said of an old configuration and a policy: the text of a renewal, or why there is none.
use Rattle.std.proofs.Common.{◌≡◌, ℕ, ◌<◌, ◌^◌, inl, inr, List, sym, ap, ◌∙◌, subst, arith}
use Rattle.list_law.proofs.Members.{AllByRecursion-IsIn}
use Rattle.net_base.specs.declared.numbers.Tag.{Tag}
use Rattle.net_base.specs.Network.{PlainNet}
use Rattle.policy_base.specs.Policies.{PlainPolicy}
use Rattle.config_base.specs.Configs.{PlainConfig}
use Rattle.evidence_base.specs.Made.{PlainCaseEvidence}
use Rattle.case_core.specs.declared.refusal.CompileRefusal.{CompileRefusal}
use Rattle.compile_core.specs.Compiling.{IsEvidenceOfMade}
use Rattle.compile_core.proofs.OneRefusal.{one_pair}
use Rattle.compile_jobs.specs.Compiled.{IsRefusedFor}
use Rattle.compile_jobs.specs.Written.{WritesPart}
use Rattle.compile_jobs.specs.declared.written.Part.{Part}
use Rattle.compile_jobs.specs.declared.written.Part.TheVariants.{Config, Evidence}
use Rattle.compile_jobs.proofs.Compiling.{never_refused, only}
use Rattle.evidence_renewal.specs.Renewed.{AreRenewed, AreRenewedCases, IsRenewal, IsRenewedEvidence, RunsOut, raised}
use Rattle.evidence_renewal.proofs.Cases.{renewed_forth}
use Rattle.evidence_renewal.proofs.One.{one_renewal}
use Rattle.refusal_lines.specs.RefusalLines.{refusal_line}
use Rattle.run_base.specs.declared.outcome.Status.TheVariants.{Refused}
use Rattle.run_base.specs.Said.{Said, text, line}
use Rattle.run_base.proofs.Jobs.{IsJobSaid, in_text, in_refusal}
use Rattle.renewal_jobs.specs.Renewing.{PrefsRunOut, SaysOfOld}

-- ---- where evidence is renewed, preferences don't run out

never_past : (taken : List Tag) (by : ℕ) (cs ds : List PlainCaseEvidence) → AreRenewedCases taken by cs ds → RunsOut by cs → ⊥
never_past taken by cs ds are past =
    let d = renewed_forth taken by cs ds are past.is.0 past.case past.is.1 in
    omega (arith, AllByRecursion-IsIn (λ n. raised by n < 2 ^ 32) past.case.numbers past.number d.2.fit past.among, past.past)

-- a part of what is renewed has one text
pub part_text : (part : Part) (config : PlainConfig) (evidence : List PlainCaseEvidence) (one other : List ℕ) → WritesPart part config evidence one → WritesPart part config evidence other → one ≡ other
part_text Config config evidence one other a b = a.written ∙ sym b.written
part_text Evidence config evidence one other a b = a ∙ sym b

module _ (net : PlainNet) (policy : PlainPolicy) where
  -- what is compiled is refused for nothing
  pub accepted : (compiled : List PlainCaseEvidence) → IsEvidenceOfMade net policy compiled → (e : CompileRefusal) → IsRefusedFor net policy e → ⊥
  accepted compiled made = never_refused net policy made.0 compiled (made.1, made.2)

  pub never_both : (old : PlainConfig) (evidence : List PlainCaseEvidence) → IsRenewedEvidence net policy old evidence → PrefsRunOut net policy old → ⊥
  never_both old evidence is out =
      let same = (one_pair net policy is.made.0 out.made.0 is.compiled out.compiled is.made.1 out.made.1).0 in
      never_past _ _ out.compiled evidence (subst (λ (cs : List PlainCaseEvidence). AreRenewed old cs evidence) same is.renewed) out.past

  module _ (part : Part) (old : PlainConfig) where
    -- ---- the form of what is said

    pub old_form : (Refuses Checks : Type 0) → Refuses → (what : Said) → SaysOfOld part net policy old what → IsJobSaid Refuses Checks what
    old_form Refuses Checks refuses what (inl h) = in_text _ h.5
    old_form Refuses Checks refuses what (inr (inl h)) = in_refusal refuses _ h.1
    old_form Refuses Checks refuses what (inr (inr h)) = in_refusal refuses _ h.2

    -- ---- one thing is said

    one_text : (config other : PlainConfig) (ds es : List PlainCaseEvidence) (b c : List ℕ) → IsRenewal net policy old config ds → IsRenewal net policy old other es
        → WritesPart part config ds b → WritesPart part other es c → b ≡ c
    one_text config other ds es b c left right writes also =
        let same = one_renewal net policy old config other ds es left right in
        part_text part other es b c
        (subst (λ (x : PlainConfig). WritesPart part x es b) same.1 (subst (λ (xs : List PlainCaseEvidence). WritesPart part config xs b) same.0 writes))
        also

    pub one_of_old : (one other : Said) → SaysOfOld part net policy old one → SaysOfOld part net policy old other → one ≡ other
    one_of_old one other (inl a) (inl b) = a.5 ∙ ap text (one_text a.0 b.0 a.1 b.1 a.2 b.2 a.3 b.3 a.4 b.4) ∙ sym b.5
    one_of_old one other (inl a) (inr (inl b)) = absurd (never_both old a.1 a.3.evidence b.0)
    one_of_old one other (inl a) (inr (inr b)) = absurd (accepted a.3.evidence.compiled a.3.evidence.made b.0 b.1)
    one_of_old one other (inr (inl a)) (inl b) = absurd (never_both old b.1 b.3.evidence a.0)
    one_of_old one other (inr (inl a)) (inr (inl b)) = a.1 ∙ sym b.1
    one_of_old one other (inr (inl a)) (inr (inr b)) = absurd (accepted a.0.compiled a.0.made b.0 b.1)
    one_of_old one other (inr (inr a)) (inl b) = absurd (accepted b.3.evidence.compiled b.3.evidence.made a.0 a.1)
    one_of_old one other (inr (inr a)) (inr (inl b)) = absurd (accepted b.0.compiled b.0.made a.0 a.1)
    one_of_old one other (inr (inr a)) (inr (inr b)) = a.2 ∙ ap (λ e. line Refused (refusal_line net e)) (only net policy a.0 b.0 a.1 b.1) ∙ sym b.2
