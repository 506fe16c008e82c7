-- What the clauses of a run say.
use Rattle.std.specs.Prelude.{◌≡◌, ◌⊎◌, ℕ, ◌<◌, List, length, Some, IfSome}
use Rattle.propane_run.specs.declared.command.Command.{Command}
use Rattle.run_base.specs.declared.outcome.Status.TheVariants.{BadInput}
use Rattle.run_base.specs.Said.{line}
use Rattle.propane_run.specs.Words.{words_are, names_read}
use Rattle.run_base.specs.Reading.{Holds, IsAmong, AreTold, most, too_long}
use Rattle.propane_run.specs.Run.{Comes}

-- The line tells that a name which the command reads holds too many bytes, or a fault of the texts.
abbrev pub FaultFound : Holds → List (List ℕ) → Command → List ℕ → Type 0
FaultFound holds words c l =
    ((name : List ℕ) × IsAmong (names_read words c) name × IfSome (holds name) (λ held. most < length held) × (l ≡ (too_long name).to_err))
    ⊎ Comes holds words c (line BadInput l)

-- The words are this command, all that it reads is told, and no count rises of a name that it reads.
pub record ReadsSmoothly (holds : Holds) (rose : List ℕ → Type 0) (words : List (List ℕ)) (c : Command) : Type 0 where
  pub is : words_are words ≡ Some c
  pub told : AreTold holds (names_read words c)
  pub reads : (name : List ℕ) → IsAmong (names_read words c) name → ¬ rose name
