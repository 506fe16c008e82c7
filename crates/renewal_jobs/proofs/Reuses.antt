-- What is said of an old configuration with its evidence and a policy: the text of what may take over, or why there is nothing.
use Rattle.std.proofs.Common.{◌≡◌, ◌⊎◌, ℕ, List, inl, inr, sym, ap, ◌∙◌, subst}
use Rattle.net_base.specs.Network.{PlainNet}
use Rattle.policy_base.specs.Policies.{PlainPolicy}
use Rattle.config_base.specs.Configs.{PlainConfig}
use Rattle.evidence_base.specs.Made.{PlainCaseEvidence}
use Rattle.compile_jobs.specs.Compiling.{IsRefusing}
use Rattle.compile_jobs.specs.Written.{WritesPart}
use Rattle.compile_jobs.specs.declared.written.Part.{Part}
use Rattle.compile_jobs.proofs.Compiling.{only}
use Rattle.evidence_reuse.specs.Reused.{IsReuse, IsReusedEvidence}
use Rattle.evidence_reuse.proofs.One.{never_other, one_reuse}
use Rattle.refusal_lines.specs.RefusalLines.{refusal_line}
use Rattle.run_base.specs.declared.outcome.Status.TheVariants.{Refused}
use Rattle.run_base.specs.declared.outcome.Stop.{Stop}
use Rattle.run_base.specs.Said.{IsGiven, Said, text, line, stop_said}
use Rattle.run_base.proofs.Jobs.{IsJobSaid, in_text, in_refusal}
use Rattle.renewal_jobs.specs.Renewing.{PrefsRunOut, SaysRunOut}
use Rattle.renewal_jobs.specs.Reusing.{SaysOfPair, SaysOther}
use Rattle.renewal_jobs.proofs.Renewals.{accepted, never_both, part_text}

module _ (net : PlainNet) (policy : PlainPolicy) (old : PlainConfig) (olds : List PlainCaseEvidence) where
  -- where what is compiled was renewed, preferences don't run out
  pub never_out : (ds : List PlainCaseEvidence) → IsReusedEvidence net policy old olds ds → PrefsRunOut net policy old → ⊥
  never_out ds is out = never_both net policy old is.renewed (record { compiled = is.compiled; made = is.made; renewed = is.are_renewed }) out

  module _ (part : Part) where
    -- a stop is said for its reason
    pub stop_given : (s : Stop) → IsRefusing net policy s ⊎ SaysRunOut net policy old (stop_said s) ⊎ SaysOther net policy old olds (stop_said s)
        → IsGiven (SaysOfPair part net policy old olds) (stop_said s)
    stop_given s (inl (inl none)) = inl none
    stop_given s (inl (inr refused)) = inr (inr (inr (inr refused)))
    stop_given s (inr (inl out)) = inr (inr (inl out))
    stop_given s (inr (inr other)) = inr (inr (inr (inl other)))

    -- ---- the form of what is said

    pub pair_form : (Refuses Checks : Type 0) → Refuses → (what : Said) → SaysOfPair part net policy old olds what → IsJobSaid Refuses Checks what
    pair_form Refuses Checks refuses what (inl h) = in_text _ h.5
    pair_form Refuses Checks refuses what (inr (inl h)) = in_refusal refuses _ h.1
    pair_form Refuses Checks refuses what (inr (inr (inl h))) = in_refusal refuses _ h.1
    pair_form Refuses Checks refuses what (inr (inr (inr h))) = in_refusal refuses _ h.2

    -- ---- one thing is said

    one_text : (config other : PlainConfig) (ds es : List PlainCaseEvidence) (b c : List ℕ) → IsReuse net policy old olds config ds → IsReuse net policy old olds other es
        → WritesPart part config ds b → WritesPart part other es c → b ≡ c
    one_text config other ds es b c left right writes also =
        let same = one_reuse net policy old config other olds ds es left right in
        part_text part other es b c
        (subst (λ (x : PlainConfig). WritesPart part x es b) same.1 (subst (λ (xs : List PlainCaseEvidence). WritesPart part config xs b) same.0 writes))
        also

    pub one_of_pair : (one other : Said) → SaysOfPair part net policy old olds one → SaysOfPair part net policy old olds other → one ≡ other
    one_of_pair one other (inl a) (inl b) = a.5 ∙ ap text (one_text a.0 b.0 a.1 b.1 a.2 b.2 a.3 b.3 a.4 b.4) ∙ sym b.5
    one_of_pair one other (inl a) (inr (inl b)) = absurd (never_out a.1 a.3.evidence b.0)
    one_of_pair one other (inl a) (inr (inr (inl b))) = absurd (never_other net policy old a.0 olds a.1 a.3 b.0)
    one_of_pair one other (inl a) (inr (inr (inr b))) = absurd (accepted net policy a.3.evidence.compiled a.3.evidence.made b.0 b.1)
    one_of_pair one other (inr (inl a)) (inl b) = absurd (never_out b.1 b.3.evidence a.0)
    one_of_pair one other (inr (inl a)) (inr (inl b)) = a.1 ∙ sym b.1
    one_of_pair one other (inr (inl a)) (inr (inr (inl b))) = absurd (never_out b.0.cases b.0.evidence a.0)
    one_of_pair one other (inr (inl a)) (inr (inr (inr b))) = absurd (accepted net policy a.0.compiled a.0.made b.0 b.1)
    one_of_pair one other (inr (inr (inl a))) (inl b) = absurd (never_other net policy old b.0 olds b.1 b.3 a.0)
    one_of_pair one other (inr (inr (inl a))) (inr (inl b)) = absurd (never_out a.0.cases a.0.evidence b.0)
    one_of_pair one other (inr (inr (inl a))) (inr (inr (inl b))) = a.1 ∙ sym b.1
    one_of_pair one other (inr (inr (inl a))) (inr (inr (inr b))) = absurd (accepted net policy a.0.evidence.compiled a.0.evidence.made b.0 b.1)
    one_of_pair one other (inr (inr (inr a))) (inl b) = absurd (accepted net policy b.3.evidence.compiled b.3.evidence.made a.0 a.1)
    one_of_pair one other (inr (inr (inr a))) (inr (inl b)) = absurd (accepted net policy b.0.compiled b.0.made a.0 a.1)
    one_of_pair one other (inr (inr (inr a))) (inr (inr (inl b))) = absurd (accepted net policy b.0.evidence.compiled b.0.evidence.made a.0 a.1)
    one_of_pair one other (inr (inr (inr a))) (inr (inr (inr b))) = a.2 ∙ ap (λ e. line Refused (refusal_line net e)) (only net policy a.0 b.0 a.1 b.1) ∙ sym b.2
