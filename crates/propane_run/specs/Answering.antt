-- What a command that compiles the policy has written of what a third text asks, where it ends with Done.
use Rattle.std.specs.Prelude.{ℕ, List, Option, Result}
use Rattle.net_base.specs.Network.{PlainNet}
use Rattle.policy_base.specs.Policies.{PlainPolicy}
use Rattle.config_base.specs.Configs.{PlainConfig}
use Rattle.evidence_base.specs.Made.{PlainCaseEvidence}
use Rattle.run_base.specs.Reading.{Holds}
use Rattle.run_base.specs.Said.{Whole}
use Rattle.propane_run.specs.declared.command.Command.{Command}
use Rattle.propane_run.specs.Asked.{AsksAlso}
use Rattle.propane_run.specs.Compilation.{Compilation}

-- `out` grew by exactly a text that is written for what the third text spells, of the configuration that is compiled from the policy.
-- That configuration keeps the policy.
pub record AnswersRight {O V F : Type 0} (spelled_by : PlainNet → List ℕ → Result V F) (Writes : PlainNet → PlainPolicy → V → PlainConfig → List PlainCaseEvidence → List ℕ → Type 0)
    (holds : Holds) (taken : O → Option (List ℕ)) (words : List (List ℕ)) (c : Command) (out out' : O) : Type 0 where
  pub net : PlainNet
  pub policy : PlainPolicy
  pub value : V
  pub asked : AsksAlso spelled_by holds words c net policy value
  pub made : Compilation net policy
  pub bytes : List ℕ
  pub written : Whole taken bytes out out'
  pub answers : Writes net policy value made.config made.evidence bytes
