-- What a run of `trace` that ends with Done has written, and for what.
use Rattle.std.specs.Prelude.{◌≡◌, ℕ, IsTrue, List, Option}
use Rattle.config_base.specs.declared.route.Route.{Route}
use Rattle.event_base.specs.World.{World}
use Rattle.event_law.specs.Laws.{world_after}
use Rattle.event_law.specs.Moments.{IsRightNow}
use Rattle.event_law.specs.Scenarios.{IsScenarioOf}
use Rattle.event_reader.specs.Spelled.{spelled as events_spelled}
use Rattle.scenarios.specs.declared.scenario.Scenario.{Scenario}
use Rattle.scenarios.specs.Scenarios.{failures_of}
use Rattle.propane_run.specs.declared.command.Command.TheVariants.{After}
use Rattle.propane_run.specs.declared.command.Course.TheVariants.{Trace}
use Rattle.propane_run.specs.Answering.{AnswersRight}
use Rattle.run_base.specs.Reading.{Holds}
use Rattle.report_jobs.specs.Replayed.{IsReplayed}
use Rattle.report_jobs.specs.Traced.{WritesTrace, scenario_in}

-- `out` grew by exactly the trace of the events that were asked for, for the configuration that is compiled from the policy: what the
-- trace tells is allowed, also while messages wait. What has failed after the events is a scenario; where no message waits then, what
-- the trace tells of the routes is what `replay` says of this scenario, and of each other one of what has failed.
pub record TracesRight {O : Type 0} (holds : Holds) (taken : O → Option (List ℕ)) (words : List (List ℕ)) (out out' : O) : Type 0 where
  pub answer : AnswersRight events_spelled WritesTrace holds taken words (After Trace) out out'
  pub world : World Route
  pub after : world ≡ world_after answer.net answer.policy answer.made.config answer.value.prefix answer.value.events
  pub moment : IsRightNow answer.net answer.policy answer.made.config answer.value.prefix world
  pub failed : IsScenarioOf answer.net world (failures_of (scenario_in answer.net answer.value.prefix world))
  pub replayed : IsTrue answer.answers.quiet → (scenario : Scenario) → answer.value.prefix ≡ scenario.prefix
      → IsScenarioOf answer.net world (failures_of scenario) → IsReplayed answer.net answer.policy answer.made.config scenario answer.answers.report
