-- What the texts of a configuration and of evidence come to, where the evidence is read first.
use Rattle.std.proofs.Common.{◌≡◌, ℕ, ◌<◌, List, length, Ok, inl, inr}
use Rattle.net_base.specs.Network.{PlainNet}
use Rattle.policy_base.specs.Policies.{PlainPolicy}
use Rattle.config_base.specs.Configs.{PlainConfig}
use Rattle.config_lines.specs.declared.edition.Edition.TheVariants.{Second}
use Rattle.config_text.specs.Spelled.{Spells}
use Rattle.config_reader.specs.Text.{spelled as config_spelled}
use Rattle.config_reader.proofs.ReadTexts.{read_is_spelled}
use Rattle.config_reader.proofs.TakenTexts.{spelled_is_read}
use Rattle.evidence_base.specs.Made.{PlainCaseEvidence}
use Rattle.evidence_text.specs.Spelled.{spelled as evidence_spelled}
use Rattle.evidence_verdicts.specs.declared.verdict.Verdict.{Verdict}
use Rattle.evidence_verdicts.specs.Verdicts.{IsVerdict}
use Rattle.run_base.specs.Said.{IsGiven, Said}
use Rattle.input_texts.specs.Texts.{OfPairTexts}
use Rattle.judging_jobs.specs.Checked.{OfConfigText, SaysOfPair}
use Rattle.judging_jobs.specs.VerdictLines.{verdict_said}

module _ (net : PlainNet) (policy : PlainPolicy) (text : List ℕ) (evidence : List PlainCaseEvidence) (verdict : Verdict)
    (judges : (config : PlainConfig) → Spells text config → IsVerdict net policy config evidence verdict) where
  -- the evidence holds with the configuration that the text spells
  pub held : (what : Said) → (config : PlainConfig) × Spells text config → IsGiven (λ w. w ≡ verdict_said verdict) what → IsGiven (OfConfigText (SaysOfPair net policy) text evidence) what
  held what found (inl none) = inl none
  held what found (inr same) = inr (inr (found.0, spelled_is_read Second text found.0 found.1, (verdict, judges found.0 found.1, same)))

  -- a verdict on the configuration that was read
  pub judged : (what : Said) (config : PlainConfig) → length text < 4294967295 → config_spelled text ≡ Ok config
      → IsGiven (λ w. w ≡ verdict_said verdict) what → IsGiven (OfConfigText (SaysOfPair net policy) text evidence) what
  judged what config short read given = held what (config, read_is_spelled Second text config short read) given

-- the evidence was read before
pub of_both : (Next : PlainConfig → List PlainCaseEvidence → Said → Type 0) (text evidence_text : List ℕ) (evidence : List PlainCaseEvidence) (what : Said)
    → evidence_spelled evidence_text ≡ Ok evidence → IsGiven (OfConfigText Next text evidence) what → IsGiven (OfPairTexts Next text evidence_text) what
unfolding OfPairTexts
of_both Next text evidence_text evidence what read (inl none) = inl none
of_both Next text evidence_text evidence what read (inr (inl fault)) = inr (inl fault)
of_both Next text evidence_text evidence what read (inr (inr next)) = inr (inr (next.0, next.1, inr (evidence, read, next.2)))
