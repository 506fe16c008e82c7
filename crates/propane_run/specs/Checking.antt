-- What a run of `check` has written, and for what.
use Rattle.std.specs.Prelude.{◌≡◌, ℕ, List, [], ◌∷◌, Option, Ok, codes}
use Rattle.net_base.specs.Network.{PlainNet}
use Rattle.policy_base.specs.Policies.{PlainPolicy}
use Rattle.config_base.specs.Configs.{PlainConfig}
use Rattle.claim_law.specs.Claim.{KeepsPolicy}
use Rattle.text_law.specs.ConfigText.{IsTextOf}
use Rattle.config_text.specs.Spelled.{Spells}
use Rattle.evidence_base.specs.Made.{PlainCaseEvidence}
use Rattle.evidence_text.specs.Spelled.{spelled as evidence_spelled_by}
use Rattle.evidence_verdicts.specs.declared.rule.CheckRule.{CheckRule}
use Rattle.evidence_verdicts.specs.declared.verdict.Shown.{Shown}
use Rattle.evidence_verdicts.specs.declared.verdict.Verdict.TheVariants.{Fails}
use Rattle.evidence_verdicts.specs.Verdicts.{IsVerdict}
use Rattle.propane_run.specs.declared.command.Command.TheVariants.{Check}
use Rattle.propane_run.specs.Asked.{AsksFor}
use Rattle.propane_run.specs.Headline.{NamesTexts}
use Rattle.run_base.specs.Reading.{Holds}
use Rattle.run_base.specs.Said.{Whole}
use Rattle.judging_jobs.specs.VerdictLines.{holds_line, fails_line}

-- The words are `check`, and the bytes of the four names that it reads spell this network, this policy for it, this
-- configuration and this evidence.
pub record AsksOf (holds : Holds) (words : List (List ℕ)) (net : PlainNet) (policy : PlainPolicy) (config : PlainConfig) (evidence : List PlainCaseEvidence) : Type 0 where
  pub asked : AsksFor holds words Check net policy
  pub config_text : List ℕ
  pub evidence_text : List ℕ
  pub more : asked.more ≡ config_text ∷ evidence_text ∷ []
  pub config_spelled : Spells config_text config
  pub evidence_spelled : evidence_spelled_by evidence_text ≡ Ok evidence

-- The words are `check` and the names of a topology, of a policy, of a configuration and of one more text. `out` grew by exactly the
-- line `holds`. The configuration keeps the policy in the network.
pub record ChecksRight {O : Type 0} (holds : Holds) (taken : O → Option (List ℕ)) (words : List (List ℕ)) (out out' : O) : Type 0 where
  pub net : PlainNet
  pub policy : PlainPolicy
  pub config_text : List ℕ
  pub evidence_text : List ℕ
  pub asked : NamesTexts holds (codes "check") words net policy (config_text ∷ evidence_text ∷ [])
  pub written : Whole taken holds_line out out'
  pub config : PlainConfig
  pub text : IsTextOf config_text config
  pub keeps : KeepsPolicy net policy config

-- `out` grew by exactly the line of the first rule that fails of the evidence that was asked of, and of where it fails.
pub record TellsFault {O : Type 0} (holds : Holds) (taken : O → Option (List ℕ)) (words : List (List ℕ)) (out out' : O) : Type 0 where
  pub net : PlainNet
  pub policy : PlainPolicy
  pub config : PlainConfig
  pub evidence : List PlainCaseEvidence
  pub asked : AsksOf holds words net policy config evidence
  pub rule : CheckRule
  pub shown : Shown
  pub verdict : IsVerdict net policy config evidence (Fails rule shown)
  pub written : Whole taken (fails_line rule shown) out out'
