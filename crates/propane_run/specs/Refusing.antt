-- What a run that refuses a policy has written, and for what.
use Rattle.std.specs.Prelude.{ℕ, List, Option}
use Rattle.net_base.specs.Network.{PlainNet}
use Rattle.policy_base.specs.Policies.{PlainPolicy}
use Rattle.case_core.specs.declared.refusal.CompileRefusal.{CompileRefusal}
use Rattle.propane_run.specs.declared.command.Command.{Command}
use Rattle.propane_run.specs.Asked.{IsFor}
use Rattle.compile_jobs.specs.Compiled.{IsRefusedFor}
use Rattle.run_base.specs.Reading.{Holds}
use Rattle.refusal_lines.specs.RefusalLines.{refusal_line}
use Rattle.run_base.specs.Said.{Whole}

-- `err` grew by exactly the line of a refusal, which applies to the network and the policy that were asked for.
pub record RefusesRight {E : Type 0} (holds : Holds) (taken : E → Option (List ℕ)) (words : List (List ℕ)) (c : Command) (err err' : E) : Type 0 where
  pub net : PlainNet
  pub policy : PlainPolicy
  pub asked : IsFor holds words c net policy
  pub refusal : CompileRefusal
  pub refused : IsRefusedFor net policy refusal
  pub written : Whole taken (refusal_line net refusal) err err'
