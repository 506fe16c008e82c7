-- What a run of `lint` has written, and for what.
use Rattle.std.specs.Prelude.{ℕ, List, Option}
use Rattle.net_base.specs.Network.{PlainNet}
use Rattle.policy_base.specs.Policies.{PlainPolicy}
use Rattle.case_graphs.specs.Limits.{compile_refusal}
use Rattle.case_graphs.specs.declared.refusal.LimitRefusal.{LimitRefusal}
use Rattle.judging_jobs.specs.Linted.{IsLinted, IsRefusedFor}
use Rattle.refusal_lines.specs.RefusalLines.{refusal_line}
use Rattle.run_base.specs.Reading.{Holds}
use Rattle.run_base.specs.Said.{Whole}
use Rattle.propane_run.specs.declared.command.Command.TheVariants.{Lint}
use Rattle.propane_run.specs.Asked.{AsksFor}

-- `out` grew by exactly the lines of the findings for the policy that was asked for, whose cases are within the limits.
pub record LintsRight {O : Type 0} (holds : Holds) (taken : O → Option (List ℕ)) (words : List (List ℕ)) (out out' : O) : Type 0 where
  pub net : PlainNet
  pub policy : PlainPolicy
  pub asked : AsksFor holds words Lint net policy
  pub bytes : List ℕ
  pub written : Whole taken bytes out out'
  pub linted : IsLinted asked.policy_text net policy bytes

-- `err` grew by exactly the line of the limit that a case of the policy passes.
pub record TellsLimit {E : Type 0} (holds : Holds) (taken : E → Option (List ℕ)) (words : List (List ℕ)) (err err' : E) : Type 0 where
  pub net : PlainNet
  pub policy : PlainPolicy
  pub asked : AsksFor holds words Lint net policy
  pub refusal : LimitRefusal
  pub refused : IsRefusedFor net policy refusal
  pub written : Whole taken (refusal_line net (compile_refusal refusal)) err err'
