-- The job that writes the maps of what is compiled.
use Rattle.std.proofs.Common.{◌≡◌, List, inl, inr, sym, ap, ◌∙◌, subst, arith}
use Rattle.net_base.specs.Network.{PlainNet}
use Rattle.policy_base.specs.Policies.{PlainPolicy}
use Rattle.config_base.specs.Configs.{PlainConfig}
use Rattle.evidence_base.specs.Made.{PlainCaseEvidence}
use Rattle.compile_core.proofs.OneRefusal.{one_pair}
use Rattle.run_base.specs.declared.outcome.Status.TheVariants.{Refused}
use Rattle.run_base.specs.Said.{Said, line}
use Rattle.run_base.proofs.Jobs.{IsJob, IsJobSaid, in_text, in_refusal}
use Rattle.refusal_lines.specs.RefusalLines.{refusal_line}
use Rattle.input_texts.specs.Texts.{OfTwoTexts}
use Rattle.input_texts.proofs.Asking.{job_of_two}
use Rattle.compile_jobs.specs.Compiled.{IsCompiled}
use Rattle.compile_jobs.proofs.Compiling.{never_refused, only}
use Rattle.judging_jobs.specs.MapsJobs.{SaysOfConfig, SaysOfPolicy}

-- ---- the form of what is said

module _ (Refuses Checks : Type 0) (refuses : Refuses) where
  pub config_form : (config : PlainConfig) (what : Said) → SaysOfConfig config what → IsJobSaid Refuses Checks what
  config_form config what (inl h) = in_text _ h.2
  config_form config what (inr many) = in_refusal refuses _ many.said

  policy_form : (net : PlainNet) (policy : PlainPolicy) (what : Said) → SaysOfPolicy net policy what → IsJobSaid Refuses Checks what
  policy_form net policy what (inl h) = config_form h.0 what h.3
  policy_form net policy what (inr h) = in_refusal refuses _ h.2

-- ---- one thing is said

pub one_of_config : (config : PlainConfig) (one other : Said) → SaysOfConfig config one → SaysOfConfig config other → one ≡ other
one_of_config config one other (inl a) (inl b) = a.2 ∙ sym b.2
one_of_config config one other (inl a) (inr b) = absurd (omega (arith, a.0, b.many))
one_of_config config one other (inr a) (inl b) = absurd (omega (arith, b.0, a.many))
one_of_config config one other (inr a) (inr b) = a.said ∙ sym b.said

-- of this configuration, where it is what is compiled
pub said_of : (net : PlainNet) (policy : PlainPolicy) (config : PlainConfig) (evidence : List PlainCaseEvidence) (what : Said)
    → IsCompiled net policy config evidence → SaysOfPolicy net policy what → SaysOfConfig config what
said_of net policy config evidence what compiled (inl h) =
    let P : PlainConfig → Type 0 = λ c. SaysOfConfig c what in
    subst P (one_pair net policy h.0 config h.1 evidence h.2.0 compiled.0).1 h.3
said_of net policy config evidence what compiled (inr h) = absurd (never_refused net policy config evidence compiled h.0 h.1)

one_of_policy : (net : PlainNet) (policy : PlainPolicy) (one other : Said) → SaysOfPolicy net policy one → SaysOfPolicy net policy other → one ≡ other
one_of_policy net policy one other (inl a) b = one_of_config a.0 one other a.3 (said_of net policy a.0 a.1 other a.2 b)
one_of_policy net policy one other (inr a) (inl b) = absurd (never_refused net policy b.0 b.1 b.2 a.0 a.1)
one_of_policy net policy one other (inr a) (inr b) = a.2 ∙ ap (λ e. line Refused (refusal_line net e)) (only net policy a.0 b.0 a.1 b.1) ∙ sym b.2

pub route_map_job : (Refuses Checks : Type 0) → Refuses → IsJob Refuses Checks (OfTwoTexts SaysOfPolicy)
route_map_job Refuses Checks refuses = job_of_two SaysOfPolicy Refuses Checks (policy_form Refuses Checks refuses) one_of_policy
