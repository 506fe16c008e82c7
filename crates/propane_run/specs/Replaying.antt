-- What a run of `replay` that ends with Done has written, and for what.
use Rattle.std.specs.Prelude.{◌≡◌, ℕ, List, Option, length}
use Rattle.outcome_base.specs.Outcomes.{Outcome}
use Rattle.settled_law.specs.Settled.{IsFullyStable}
use Rattle.scenario_reader.specs.Spelled.{spelled as scenario_spelled}
use Rattle.scenarios.specs.Scenarios.{failures_of}
use Rattle.propane_run.specs.declared.command.Command.TheVariants.{Under}
use Rattle.propane_run.specs.declared.command.Outlook.TheVariants.{Replay}
use Rattle.propane_run.specs.Answering.{AnswersRight}
use Rattle.run_base.specs.Reading.{Holds}
use Rattle.report_jobs.specs.Replayed.{WritesReport}

-- `out` grew by exactly the report of an outcome, which is stable with ties broken for the configuration that is compiled from the
-- policy, under the failures of the scenario that was asked for and for its prefix. There is no other such outcome.
pub record ReplaysRight {O : Type 0} (holds : Holds) (taken : O → Option (List ℕ)) (words : List (List ℕ)) (out out' : O) : Type 0 where
  pub answer : AnswersRight scenario_spelled WritesReport holds taken words (Under Replay) out out'
  pub only : (other : Outcome) → length other ≡ length answer.net.routers
      → IsFullyStable answer.net answer.policy answer.made.config (failures_of answer.value) answer.value.prefix other → other ≡ answer.answers.outcome
