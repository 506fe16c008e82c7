-- What a run of `promises` that ends with Done has written, and for what.
use Rattle.std.specs.Prelude.{ℕ, List, Option}
use Rattle.net_base.specs.Network.{PlainNet}
use Rattle.policy_base.specs.Policies.{PlainPolicy}
use Rattle.report_jobs.specs.Promised.{WritesPromises}
use Rattle.run_base.specs.Reading.{Holds}
use Rattle.run_base.specs.Said.{Whole}
use Rattle.propane_run.specs.declared.command.Command.TheVariants.{Promises}
use Rattle.propane_run.specs.Asked.{AsksFor}
use Rattle.propane_run.specs.Compilation.{Compilation}

-- `out` grew by exactly the text of what the policy promises, and to whom, for the configuration that is compiled from it. That
-- configuration keeps the policy, so it keeps what is promised.
pub record PromisesRight {O : Type 0} (holds : Holds) (taken : O → Option (List ℕ)) (words : List (List ℕ)) (out out' : O) : Type 0 where
  pub net : PlainNet
  pub policy : PlainPolicy
  pub asked : AsksFor holds words Promises net policy
  pub made : Compilation net policy
  pub bytes : List ℕ
  pub written : Whole taken bytes out out'
  pub told : WritesPromises net policy made.config made.evidence bytes
