-- What `check` says of a network, a policy, a configuration and evidence.
use Rattle.std.specs.Prelude.{◌≡◌, ℕ, List, [], ◌∷◌}
use Rattle.net_base.specs.Network.{PlainNet}
use Rattle.policy_base.specs.Policies.{PlainPolicy}
use Rattle.config_base.specs.Configs.{PlainConfig}
use Rattle.evidence_base.specs.Made.{PlainCaseEvidence}
use Rattle.evidence_verdicts.specs.declared.verdict.Verdict.{Verdict}
use Rattle.evidence_verdicts.specs.Verdicts.{IsVerdict}
use Rattle.run_base.specs.Said.{Said}
use Rattle.config_reader.specs.Text.{spelled as config_spelled}
use Rattle.input_texts.specs.FaultLines.{config_line}
use Rattle.input_texts.specs.Texts.{OfAllTexts, OfPairTexts, OfRead}
use Rattle.judging_jobs.specs.VerdictLines.{verdict_said}

-- that the evidence holds, or the first rule that fails
abbrev pub SaysOfPair : PlainNet → PlainPolicy → PlainConfig → List PlainCaseEvidence → Said → Type 0
SaysOfPair net policy config evidence what = (verdict : Verdict) × IsVerdict net policy config evidence verdict × (what ≡ verdict_said verdict)

-- The configuration is read; and what follows from it with evidence is said, or its fault.
abbrev pub OfConfigText : (PlainConfig → List PlainCaseEvidence → Said → Type 0) → List ℕ → List PlainCaseEvidence → Said → Type 0
OfConfigText Next config_text evidence what = OfRead config_line (config_spelled config_text) (λ config. Next config evidence) what

-- what is said of the texts of a configuration and of evidence, for a network and a policy
abbrev pub SaysOfPolicy : List ℕ → List ℕ → PlainNet → PlainPolicy → Said → Type 0
SaysOfPolicy config_text evidence_text net policy what = OfPairTexts (SaysOfPair net policy) config_text evidence_text what

-- where these are the texts after the first two
abbrev pub SaysOfMore : List (List ℕ) → PlainNet → PlainPolicy → Said → Type 0
SaysOfMore (config_text ∷ evidence_text ∷ []) = SaysOfPolicy config_text evidence_text
SaysOfMore _ = λ net policy what. ⊥

-- and of four texts
abbrev pub SaysOfTexts : List (List ℕ) → Said → Type 0
SaysOfTexts = OfAllTexts SaysOfMore
