-- The job that checks.
use Rattle.std.proofs.Common.{◌≡◌, ◌≢◌, ℕ, List, [], ◌∷◌, refl, sym, ap, ◌∙◌}
use Rattle.net_base.specs.Network.{PlainNet, IsNet}
use Rattle.policy_base.specs.Policies.{IsPolicyOf, PlainPolicy}
use Rattle.config_base.specs.Configs.{PlainConfig}
use Rattle.evidence_base.specs.Made.{PlainCaseEvidence}
use Rattle.evidence_verdicts.specs.declared.verdict.Verdict.{Verdict}
use Rattle.evidence_verdicts.specs.declared.verdict.Verdict.TheVariants.{Holds, Fails}
use Rattle.evidence_verdicts.proofs.OneVerdict.{one_verdict}
use Rattle.run_base.specs.declared.outcome.Status.TheVariants.{BadInput}
use Rattle.run_base.specs.Said.{Said}
use Rattle.run_base.proofs.Jobs.{IsJob, IsJobSaid, in_text, in_failing}
use Rattle.input_texts.proofs.Asking.{job_of}
use Rattle.input_texts.proofs.Spelling.{OfPair, of_pair, one_of_pair, pair_form}
use Rattle.judging_jobs.specs.Checked.{SaysOfMore, SaysOfPair, SaysOfTexts}
use Rattle.judging_jobs.specs.VerdictLines.{fails_line, holds_line, verdict_said}

-- ---- the form of what is said, and that it is one thing

module _ (Refuses Checks : Type 0) (checks : Checks) where
  verdict_form : (v : Verdict) (what : Said) → what ≡ verdict_said v → IsJobSaid Refuses Checks what
  verdict_form Holds what is = in_text holds_line is
  verdict_form (Fails rule shown) what is = in_failing checks (fails_line rule shown) is

  more_form : (more : List (List ℕ)) (net : PlainNet) (policy : PlainPolicy) (what : Said) → SaysOfMore more net policy what → IsJobSaid Refuses Checks what
  more_form [] net policy what h = absurd h
  more_form (z ∷ []) net policy what h = absurd h
  more_form (z ∷ w ∷ []) net policy what h = pair_form (SaysOfPair net policy) Refuses Checks (λ config evidence said p. verdict_form p.0 said p.2) z w what h
  more_form (z ∷ w ∷ v ∷ more) net policy what h = absurd h

one_of_verdicts : (net : PlainNet) (policy : PlainPolicy) (config : PlainConfig) (evidence : List PlainCaseEvidence) (one other : Said) → SaysOfPair net policy config evidence one
    → SaysOfPair net policy config evidence other → one ≡ other
one_of_verdicts net policy config evidence one other a b = a.2 ∙ ap verdict_said (one_verdict net policy config evidence a.0 b.0 a.1 b.1) ∙ sym b.2

one_of_more : (more : List (List ℕ)) (net : PlainNet) (policy : PlainPolicy) → IsNet net → IsPolicyOf net policy → (one other : Said)
    → SaysOfMore more net policy one → SaysOfMore more net policy other → one ≡ other
one_of_more [] net policy rules fits one other a b = absurd a
one_of_more (z ∷ []) net policy rules fits one other a b = absurd a
one_of_more (z ∷ w ∷ []) net policy rules fits one other a b = one_of_pair (SaysOfPair net policy) (one_of_verdicts net policy) z w one other a b
one_of_more (z ∷ w ∷ v ∷ more) net policy rules fits one other a b = absurd a

pub check_job : (Refuses Checks : Type 0) → Checks → IsJob Refuses Checks SaysOfTexts
check_job Refuses Checks checks = job_of SaysOfMore Refuses Checks (more_form Refuses Checks checks) one_of_more

-- ---- of which configuration and evidence a thing is said

pub record OfMore (more : List (List ℕ)) (net : PlainNet) (policy : PlainPolicy) (what : Said) : Type 0 where
  pub config_text : List ℕ
  pub evidence_text : List ℕ
  pub more_is : more ≡ config_text ∷ evidence_text ∷ []
  pub of : OfPair (SaysOfPair net policy) config_text evidence_text what

pub of_more : (more : List (List ℕ)) (net : PlainNet) (policy : PlainPolicy) (what : Said) → what.status ≢ BadInput → SaysOfMore more net policy what → OfMore more net policy what
of_more [] net policy what lawful h = absurd h
of_more (z ∷ []) net policy what lawful h = absurd h
of_more (z ∷ w ∷ []) net policy what lawful h = record { config_text = z; evidence_text = w; more_is = refl; of = of_pair (SaysOfPair net policy) z w what lawful h }
of_more (z ∷ w ∷ v ∷ more) net policy what lawful h = absurd h
