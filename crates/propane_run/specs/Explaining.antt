-- What a run of `explain` that ends with Done has written.
use Rattle.std.specs.Prelude.{◌⊎◌, ℕ, List, Option}
use Rattle.net_base.specs.Network.{PlainNet}
use Rattle.policy_base.specs.Policies.{PlainPolicy}
use Rattle.case_core.specs.declared.refusal.CompileRefusal.{CompileRefusal}
use Rattle.compile_jobs.specs.Compiled.{IsRefusedFor}
use Rattle.refusal_lines.specs.Explanations.{accepted_line, explanation}
use Rattle.run_base.specs.Reading.{Holds}
use Rattle.run_base.specs.Said.{Whole}
use Rattle.propane_run.specs.declared.command.Command.TheVariants.{Explain}
use Rattle.propane_run.specs.Asked.{AsksFor}
use Rattle.propane_run.specs.Compilation.{Compilation}

-- The policy is accepted: a configuration is compiled from it, which keeps it, and no refusal applies.
pub record IsAccepted (net : PlainNet) (policy : PlainPolicy) : Type 0 where
  pub made : Compilation net policy
  pub free : (e : CompileRefusal) → ¬ IsRefusedFor net policy e

-- `out` grew by exactly the line `accepted`, and the policy that was asked for is accepted; or it grew by exactly a refusal
-- that applies to it, with what shows it.
pub record ExplainsRight {O : Type 0} (holds : Holds) (taken : O → Option (List ℕ)) (words : List (List ℕ)) (out out' : O) : Type 0 where
  pub net : PlainNet
  pub policy : PlainPolicy
  pub asked : AsksFor holds words Explain net policy
  pub says : IsAccepted net policy × Whole taken accepted_line out out'
      ⊎ ((e : CompileRefusal) × IsRefusedFor net policy e × Whole taken (explanation net e) out out')
