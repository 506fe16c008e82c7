-- The text that is written of the evidence for a policy.
use Rattle.std.specs.Prelude.{◌≡◌, ℕ, List}
use Rattle.net_base.specs.Network.{PlainNet}
use Rattle.policy_base.specs.Policies.{PlainPolicy}
use Rattle.evidence_base.specs.Made.{PlainCaseEvidence}
use Rattle.promises_report.specs.Cases.{AreTold, cases_of}
use Rattle.promises_report.specs.Promises.{Promises}
use Rattle.promises_text.specs.Texts.{promises_text}

-- the text of what the evidence tells
pub record IsTextOf (net : PlainNet) (policy : PlainPolicy) (ds : List PlainCaseEvidence) (text : List ℕ) : Type 0 where
  pub promises : List Promises
  pub told : AreTold net ds promises
  pub spelled : text ≡ promises_text net policy (cases_of ds) promises
