-- The job that explains.
use Rattle.std.proofs.Common.{◌≡◌, inl, inr, sym, ap, ◌∙◌}
use Rattle.net_base.specs.Network.{PlainNet}
use Rattle.policy_base.specs.Policies.{PlainPolicy}
use Rattle.refusal_lines.specs.Explanations.{explanation}
use Rattle.run_base.specs.Said.{Said, text}
use Rattle.run_base.proofs.Jobs.{IsJob, IsJobSaid, in_text}
use Rattle.input_texts.specs.Texts.{OfTwoTexts}
use Rattle.input_texts.proofs.Asking.{job_of_two}
use Rattle.compile_jobs.specs.Explained.{SaysOfPolicy}
use Rattle.compile_jobs.proofs.Compiling.{never_refused, only}

policy_form : (Refuses Checks : Type 0) (net : PlainNet) (policy : PlainPolicy) (what : Said) → SaysOfPolicy net policy what → IsJobSaid Refuses Checks what
policy_form Refuses Checks net policy what (inl h) = in_text _ h.3
policy_form Refuses Checks net policy what (inr h) = in_text _ h.2

one_of_policy : (net : PlainNet) (policy : PlainPolicy) (one other : Said) → SaysOfPolicy net policy one → SaysOfPolicy net policy other → one ≡ other
one_of_policy net policy one other (inl a) (inl b) = a.3 ∙ sym b.3
one_of_policy net policy one other (inl a) (inr b) = absurd (never_refused net policy a.0 a.1 a.2 b.0 b.1)
one_of_policy net policy one other (inr a) (inl b) = absurd (never_refused net policy b.0 b.1 b.2 a.0 a.1)
one_of_policy net policy one other (inr a) (inr b) = a.2 ∙ ap (λ e. text (explanation net e)) (only net policy a.0 b.0 a.1 b.1) ∙ sym b.2

pub explain_job : (Refuses Checks : Type 0) → IsJob Refuses Checks (OfTwoTexts SaysOfPolicy)
explain_job Refuses Checks = job_of_two SaysOfPolicy Refuses Checks (policy_form Refuses Checks) one_of_policy
