-- What is compiled from a policy.
use Rattle.std.specs.Prelude.{List}
use Rattle.net_base.specs.Network.{PlainNet}
use Rattle.policy_base.specs.Policies.{PlainPolicy}
use Rattle.config_base.specs.Configs.{PlainConfig}
use Rattle.evidence_base.specs.Made.{PlainCaseEvidence}
use Rattle.claim_law.specs.Claim.{KeepsPolicy, IsKeptAtWork}
use Rattle.compile_jobs.specs.Compiled.{IsCompiled}

-- A configuration with its evidence. It keeps the policy, also at work.
pub record Compilation (net : PlainNet) (policy : PlainPolicy) : Type 0 where
  pub config : PlainConfig
  pub evidence : List PlainCaseEvidence
  pub compiled : IsCompiled net policy config evidence
  pub keeps : KeepsPolicy net policy config
  pub at_work : IsKeptAtWork net policy config
