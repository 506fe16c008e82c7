-- What a run of `migrate` has written: a text of the configuration that it read.
use Rattle.std.proofs.Common.{◌≡◌, ◌⊎◌, ℕ, List, [], ◌∷◌, Option, Some, inl, inr, arith}
use Rattle.input_output.specs.Outside.{Rose}
use Rattle.config_base.specs.Configs.{PlainConfig}
use Rattle.config_text.specs.ConfigText.{config_text}
use Rattle.run_base.specs.declared.outcome.Status.{Status}
use Rattle.run_base.specs.declared.outcome.Status.TheVariants.{Done, NoMemory}
use Rattle.run_base.specs.Reading.{Holds, AllHeld, SaidOfTold}
use Rattle.run_base.specs.Said.{Said, text, Whole, Delivered}
use Rattle.run_base.proofs.Sent.{Gives, text_sent}
use Rattle.run_base.proofs.Told.{told_is}
use Rattle.judging_jobs.specs.Migrated.{SaysOfTexts}
use Rattle.judging_jobs.proofs.MigrateLaws.{is_migrated, migrate_job, migrates}
use Rattle.propane_run.specs.declared.command.Command.{Command}
use Rattle.propane_run.specs.declared.command.Command.TheVariants.{Migrate}
use Rattle.propane_run.specs.Migrating.{AsksOfOld, MigratesRight}
use Rattle.propane_run.specs.Run.{Comes, Job}
use Rattle.propane_run.specs.Words.{names_read, words_are}

module _ (holds : Holds) (words : List (List ℕ)) where
  -- the command
  abbrev c : Command
  c = Migrate

  module _ {S : Type 0} (taken : S → Option (List ℕ)) (before now : S) (b : List ℕ) (written : Whole taken b before now) where
    right_of : words_are words ≡ Some c → (bs : List (List ℕ)) → AllHeld holds (names_read words c) bs → SaysOfTexts bs (text b) → MigratesRight holds taken words before now
    right_of is [] held says = absurd says
    right_of is (old ∷ x ∷ bs) held says = absurd says
    right_of is (old ∷ []) held says =
        let m = is_migrated old b (omega (arith, held.0.within)) says in
        record { config = m.config; asked = record { asked = is; old = old; held = held; spelled = m.before }; bytes = b; written = written; spelled = m.after }

    -- what it writes spells what it read
    pub right : Comes holds words c (text b) → MigratesRight holds taken words before now
    right comes = right_of comes.is comes.bytes comes.held comes.says

  -- ---- where the inputs are told

  module _ (config : PlainConfig) (asks : AsksOfOld holds words config) {O E : Type 0} (ot : O → Option (List ℕ)) (of : O → ℕ)
      (et : E → Option (List ℕ)) (ef : E → ℕ) (out out' : O) (err err' : E) (ended : Status) (calm : Rose (of out) (of out') → ⊥) where
    done_by : (wanted : Said) → SaidOfTold holds (names_read words c) (Job c) wanted → Delivered ot of et ef wanted out out' err err' ended → ended ≡ Done
    done_by wanted said sent =
        let is : wanted ≡ text (config_text config) =
        (migrate_job ⊥ ⊥).one (asks.old ∷ []) wanted (text (config_text config))
        (told_is holds (names_read words c) (Job c) (asks.old ∷ []) wanted asks.held said) (migrates asks.old config asks.spelled) in
        text_sent ot of et ef out out' err err' ended (config_text config) calm (rw is at sent)

    pub migrated_where : Gives ot of et ef out out' err err' ended (SaidOfTold holds (names_read words c) (Job c)) → (ended ≡ NoMemory) ⊎ (ended ≡ Done)
    migrated_where (inl m) = inl m
    migrated_where (inr w) = inr (done_by w.0 w.1 w.2)
