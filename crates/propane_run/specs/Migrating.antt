-- What a run of `migrate` has written, and for what.
use Rattle.std.specs.Prelude.{◌≡◌, ℕ, List, [], ◌∷◌, Option, Some}
use Rattle.config_base.specs.Configs.{PlainConfig}
use Rattle.config_lines.specs.declared.edition.Edition.TheVariants.{First}
use Rattle.config_text.specs.Spelled.{SpellsIn, Spells}
use Rattle.run_base.specs.Reading.{Holds, AllHeld}
use Rattle.run_base.specs.Said.{Whole}
use Rattle.propane_run.specs.declared.command.Command.TheVariants.{Migrate}
use Rattle.propane_run.specs.Words.{words_are, names_read}

-- The words are `migrate`, and the bytes of the one name that it reads spell this configuration in the first edition.
pub record AsksOfOld (holds : Holds) (words : List (List ℕ)) (config : PlainConfig) : Type 0 where
  pub asked : words_are words ≡ Some Migrate
  pub old : List ℕ
  pub held : AllHeld holds (names_read words Migrate) (old ∷ [])
  pub spelled : SpellsIn First old config

-- `out` grew by exactly a text that spells the same configuration in the second edition.
pub record MigratesRight {O : Type 0} (holds : Holds) (taken : O → Option (List ℕ)) (words : List (List ℕ)) (out out' : O) : Type 0 where
  pub config : PlainConfig
  pub asked : AsksOfOld holds words config
  pub bytes : List ℕ
  pub written : Whole taken bytes out out'
  pub spelled : Spells bytes config
