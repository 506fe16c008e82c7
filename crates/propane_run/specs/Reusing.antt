-- What a run of `renew`, or of `renewal`, has written where it had the evidence of the old configuration, and for what.
use Rattle.std.specs.Prelude.{ℕ, List, Option}
use Rattle.net_base.specs.Network.{PlainNet}
use Rattle.policy_base.specs.Policies.{PlainPolicy}
use Rattle.config_base.specs.Configs.{PlainConfig}
use Rattle.evidence_base.specs.Made.{PlainCaseEvidence}
use Rattle.evidence_law.specs.Passes.{Passes}
use Rattle.claim_law.specs.Claim.{KeepsPolicy, IsKeptAtWork}
use Rattle.compile_jobs.specs.Written.{WritesPart}
use Rattle.compile_jobs.specs.declared.written.Part.{Part}
use Rattle.evidence_reuse.specs.Reused.{IsOther, IsReuse}
use Rattle.renewal_jobs.specs.Reusing.{other_line}
use Rattle.run_base.specs.Reading.{Holds}
use Rattle.run_base.specs.Said.{Whole}
use Rattle.propane_run.specs.Asked.{AsksOfReuse}

-- A configuration that may take over from an old one, in which what stays is as the old evidence has it; with its evidence, which passes. It
-- keeps the policy, also at work.
pub record Reused (net : PlainNet) (policy : PlainPolicy) (old : PlainConfig) (olds : List PlainCaseEvidence) : Type 0 where
  pub config : PlainConfig
  pub evidence : List PlainCaseEvidence
  pub reuse : IsReuse net policy old olds config evidence
  pub passes : Passes net policy config evidence
  pub keeps : KeepsPolicy net policy config
  pub at_work : IsKeptAtWork net policy config

-- `out` grew by exactly a text that spells such a configuration; or of `renewal` by exactly the text of its evidence.
pub record ReusesRight {O : Type 0} (holds : Holds) (taken : O → Option (List ℕ)) (words : List (List ℕ)) (part : Part) (out out' : O) : Type 0 where
  pub net : PlainNet
  pub policy : PlainPolicy
  pub old : PlainConfig
  pub olds : List PlainCaseEvidence
  pub asked : AsksOfReuse holds words part net policy old olds
  pub made : Reused net policy old olds
  pub bytes : List ℕ
  pub written : Whole taken bytes out out'
  pub told : WritesPart part made.config made.evidence bytes

-- `err` grew by exactly the line that the evidence isn't that of the old configuration: with what would stay by it nothing may take over.
pub record TellsOther {E : Type 0} (holds : Holds) (taken : E → Option (List ℕ)) (words : List (List ℕ)) (part : Part) (err err' : E) : Type 0 where
  pub net : PlainNet
  pub policy : PlainPolicy
  pub old : PlainConfig
  pub olds : List PlainCaseEvidence
  pub asked : AsksOfReuse holds words part net policy old olds
  pub other : IsOther net policy old olds
  pub written : Whole taken other_line err err'
