-- What a run of `between` has written, and for what.
use Rattle.std.specs.Prelude.{◌≡◌, ℕ, List, [], ◌∷◌, Option, Ok, Some}
use Rattle.config_base.specs.Configs.{PlainConfig}
use Rattle.config_reader.specs.Text.{spelled as config_spelled_by}
use Rattle.config_text.specs.Spelled.{Spells}
use Rattle.run_base.specs.Reading.{Holds, AllHeld}
use Rattle.run_base.specs.Said.{Whole}
use Rattle.stage_check.specs.declared.judging.Verdict.TheVariants.{TooManyLines}
use Rattle.stage_check.specs.declared.which.Stage.{Stage}
use Rattle.stage_check.specs.Laws.{AreRollouts}
use Rattle.stage_check.specs.Stages.{stage_of}
use Rattle.stage_check.specs.Verdicts.{verdict}
use Rattle.stage_jobs.specs.Betweens.{IsInTheWay, too_many_lines, way_line}
use Rattle.propane_run.specs.declared.command.Command.TheVariants.{Between}
use Rattle.propane_run.specs.Words.{names_read, words_are}

-- The words are `between` with this stage, and the bytes of the two names that it reads spell these configurations.
pub record AsksBetween (holds : Holds) (words : List (List ℕ)) (stage : Stage) (old new : PlainConfig) : Type 0 where
  pub asked : words_are words ≡ Some (Between stage)
  pub before : List ℕ
  pub after : List ℕ
  pub held : AllHeld holds (names_read words (Between stage)) (before ∷ after ∷ [])
  pub old_spelled : config_spelled_by before ≡ Ok old
  pub new_spelled : config_spelled_by after ≡ Ok new

-- `out` grew by exactly the text of the stage between the two configurations. For every network, every two policies and every prefix the
-- two configurations and the two stages are a rollout.
pub record WritesStage {O : Type 0} (holds : Holds) (taken : O → Option (List ℕ)) (words : List (List ℕ)) (stage : Stage) (out out' : O) : Type 0 where
  pub old : PlainConfig
  pub new : PlainConfig
  pub asked : AsksBetween holds words stage old new
  pub bytes : List ℕ
  pub written : Whole taken bytes out out'
  pub spelled : Spells bytes (stage_of stage old new)
  pub rollouts : AreRollouts old new

-- `out` grew by exactly the line of what is in the way of stages.
pub record TellsTheWay {O : Type 0} (holds : Holds) (taken : O → Option (List ℕ)) (words : List (List ℕ)) (stage : Stage) (out out' : O) : Type 0 where
  pub old : PlainConfig
  pub new : PlainConfig
  pub asked : AsksBetween holds words stage old new
  pub in_the_way : IsInTheWay (verdict old new)
  pub written : Whole taken (way_line (verdict old new)) out out'

-- `err` grew by exactly the line of how many lines a stage would have, which are too many.
pub record TellsTooLong {E : Type 0} (holds : Holds) (taken : E → Option (List ℕ)) (words : List (List ℕ)) (stage : Stage) (err err' : E) : Type 0 where
  pub old : PlainConfig
  pub new : PlainConfig
  pub asked : AsksBetween holds words stage old new
  pub number : ℕ
  pub many : verdict old new ≡ TooManyLines number
  pub written : Whole taken (too_many_lines number) err err'
