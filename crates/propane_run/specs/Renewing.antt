-- What a run of `renew`, or of `renewal`, has written, and for what.
use Rattle.std.specs.Prelude.{ℕ, List, Option}
use Rattle.net_base.specs.Network.{PlainNet}
use Rattle.policy_base.specs.Policies.{PlainPolicy}
use Rattle.config_base.specs.Configs.{PlainConfig}
use Rattle.evidence_base.specs.Made.{PlainCaseEvidence}
use Rattle.evidence_law.specs.Passes.{Passes}
use Rattle.claim_law.specs.Claim.{KeepsPolicy, IsKeptAtWork}
use Rattle.rollout_law.specs.Standing.{AreDisjoint}
use Rattle.evidence_renewal.specs.Laws.{IsAbove}
use Rattle.evidence_renewal.specs.Renewed.{IsRenewal}
use Rattle.compile_jobs.specs.Written.{WritesPart}
use Rattle.compile_jobs.specs.declared.written.Part.{Part}
use Rattle.renewal_jobs.specs.Renewing.{PrefsRunOut, run_out_line, top_of}
use Rattle.run_base.specs.Reading.{Holds}
use Rattle.run_base.specs.Said.{Whole}
use Rattle.propane_run.specs.Asked.{AsksOfRenewal}

-- A configuration that may take over from an old one, with its evidence, which passes. It keeps the policy, also at work. No tag stands
-- in both configurations, and each of its preferences is above each of the old one.
pub record Renewal (net : PlainNet) (policy : PlainPolicy) (old : PlainConfig) : Type 0 where
  pub config : PlainConfig
  pub evidence : List PlainCaseEvidence
  pub renewed : IsRenewal net policy old config evidence
  pub passes : Passes net policy config evidence
  pub keeps : KeepsPolicy net policy config
  pub at_work : IsKeptAtWork net policy config
  pub apart : AreDisjoint config old
  pub above : IsAbove config old

-- `out` grew by exactly a text that spells such a configuration; or of `renewal` by exactly the text of its evidence.
pub record RenewsRight {O : Type 0} (holds : Holds) (taken : O → Option (List ℕ)) (words : List (List ℕ)) (part : Part) (out out' : O) : Type 0 where
  pub net : PlainNet
  pub policy : PlainPolicy
  pub old : PlainConfig
  pub asked : AsksOfRenewal holds words part net policy old
  pub made : Renewal net policy old
  pub bytes : List ℕ
  pub written : Whole taken bytes out out'
  pub told : WritesPart part made.config made.evidence bytes

-- `err` grew by exactly the line that above the greatest preference of the old configuration there are too few for the policy that was
-- asked for, which is so.
pub record TellsRunOut {E : Type 0} (Asks : PlainNet → PlainPolicy → PlainConfig → Type 0) (taken : E → Option (List ℕ)) (err err' : E) : Type 0 where
  pub net : PlainNet
  pub policy : PlainPolicy
  pub old : PlainConfig
  pub asked : Asks net policy old
  pub past : PrefsRunOut net policy old
  pub written : Whole taken (run_out_line (top_of old)) err err'
