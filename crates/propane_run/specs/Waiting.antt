-- What a run of `waiting` that ends with Done has written, and for what.
use Rattle.std.specs.Prelude.{ℕ, List, Option}
use Rattle.event_law.specs.Laws.{world_after}
use Rattle.event_law.specs.Moments.{IsRightNow}
use Rattle.event_reader.specs.Spelled.{spelled as events_spelled}
use Rattle.propane_run.specs.declared.command.Command.TheVariants.{After}
use Rattle.propane_run.specs.declared.command.Course.TheVariants.{Waiting}
use Rattle.propane_run.specs.Answering.{AnswersRight}
use Rattle.run_base.specs.Reading.{Holds}
use Rattle.report_jobs.specs.Waits.{WritesWaiting}

-- `out` grew by exactly what waits after the events that were asked for, for the configuration that is compiled from the policy. It is the
-- world of which `trace` tells what is held, and each route that waits there on its way to a peer is allowed.
pub record WaitsRight {O : Type 0} (holds : Holds) (taken : O → Option (List ℕ)) (words : List (List ℕ)) (out out' : O) : Type 0 where
  pub answer : AnswersRight events_spelled WritesWaiting holds taken words (After Waiting) out out'
  pub moment : IsRightNow answer.net answer.policy answer.made.config answer.value.prefix
      (world_after answer.net answer.policy answer.made.config answer.value.prefix answer.value.events)
