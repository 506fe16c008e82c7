-- How often readings and writes of a run failed, by the status with which it ended.
use Rattle.std.proofs.Common.{◌≡◌, ◌≢◌, ℕ, List, Option, inl, inr, refl, sym, subst, ◌∙◌}
use Rattle.input_output.specs.Outside.{Rose}
use Rattle.run_base.specs.declared.outcome.Status.{Status}
use Rattle.run_base.specs.declared.outcome.Status.TheVariants.{Done, Refused, Usage, BadInput, ReadFault, WriteFault, NoMemory, CheckFails}
use Rattle.run_base.specs.Reading.{FailedAs, Holds}
use Rattle.run_base.specs.Said.{Calm, Delivered, IsGiven, Said}
use Rattle.run_base.proofs.Jobs.{IsJobSaid, in_text, in_line, in_refusal, in_failing, status_is}
use Rattle.propane_run.specs.declared.command.Command.{Command}
use Rattle.propane_run.specs.Run.{Job, Ran}
use Rattle.propane_run.proofs.Dispatch.{job_is}

module _ (before now : ℕ) where
  -- ---- of a job, whose names were read

  module _ (none : now ≡ before) (what : Said) where
    -- what is said has another status than ReadFault
    by : (status : Status) → what.status ≡ status → FailedAs status before now → FailedAs what.status before now
    by status is calm = subst (λ (s : Status). FailedAs s before now) (sym is) calm

    said_calmly : {Refuses Checks : Type 0} → IsJobSaid Refuses Checks what → FailedAs what.status before now
    said_calmly (in_text b is) = by Done (status_is what _ is) none
    said_calmly (in_line l is) = by BadInput (status_is what _ is) none
    said_calmly (in_refusal refuses l is) = by Refused (status_is what _ is) none
    said_calmly (in_failing checks l is) = by CheckFails (status_is what _ is) none

    pub given_calmly : (c : Command) (bs : List (List ℕ)) → IsGiven (Job c bs) what → FailedAs what.status before now
    given_calmly c bs (inl m) = by NoMemory (status_is what _ m) none
    given_calmly c bs (inr says) = said_calmly ((job_is c).form bs what says)

  -- ---- of a run

  calm_at : (status : Status) → status ≢ ReadFault → FailedAs status before now → now ≡ before
  calm_at Done other calm = calm
  calm_at Refused other calm = calm
  calm_at Usage other calm = calm
  calm_at BadInput other calm = calm
  calm_at ReadFault other once = absurd (other refl)
  calm_at WriteFault other calm = calm
  calm_at NoMemory other calm = calm
  calm_at CheckFails other calm = calm

module _ {O E : Type 0} {ot : O → Option (List ℕ)} {of : O → ℕ} {et : E → Option (List ℕ)} {ef : E → ℕ}
    {holds : Holds} {rose : List ℕ → Type 0} {failed failed' : ℕ} {words : List (List ℕ)} {out out' : O} {err err' : E} {ended : Status}
    (ran : Ran ot of et ef holds rose failed failed' words out out' err err' ended) where
  once_by : Delivered ot of et ef ran.what out out' err err' ended → ended ≡ ReadFault → Rose failed failed'
  once_by (inl h) is = subst (λ (s : Status). FailedAs s failed failed') (sym h.0 ∙ is) ran.reads
  once_by (inr h) is = absurd (let clash = sym h.0 ∙ is in cc)

  -- a reading failed, and one alone
  pub failed_once : ended ≡ ReadFault → Rose failed failed'
  failed_once = once_by ran.sent

  none_by : Delivered ot of et ef ran.what out out' err err' ended → ended ≢ ReadFault → ended ≢ WriteFault → failed' ≡ failed
  none_by (inl h) read write = calm_at failed failed' ran.what.status (λ is. read (h.0 ∙ is)) ran.reads
  none_by (inr h) read write = absurd (write h.0)

  -- none failed
  pub none_failed : ended ≢ ReadFault → ended ≢ WriteFault → failed' ≡ failed
  none_failed = none_by ran.sent

  calm_by : Delivered ot of et ef ran.what out out' err err' ended → ended ≢ WriteFault → Calm of out out' × Calm ef err err'
  calm_by (inl h) write = (h.3, h.4)
  calm_by (inr h) write = absurd (write h.0)

  -- and no write
  pub no_write_failed : ended ≢ WriteFault → Calm of out out' × Calm ef err err'
  no_write_failed = calm_by ran.sent
