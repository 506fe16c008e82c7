-- Each command ends as it is to end by what its inputs spell. A line for each command.
use Rattle.std.proofs.Common.{◌≡◌, ◌⊎◌, ℕ, List, Option, inl, inr}
use Rattle.input_output.specs.Outside.{Rose}
use Rattle.help_texts.specs.Pages.{help_text, version_text}
use Rattle.run_base.specs.declared.outcome.Status.{Status}
use Rattle.run_base.specs.declared.outcome.Status.TheVariants.{Done, NoMemory, Refused, CheckFails}
use Rattle.run_base.specs.Reading.{Holds, SaidOfTold}
use Rattle.run_base.specs.Said.{text, Whole}
use Rattle.run_base.proofs.Sent.{Gives, text_sent}
use Rattle.propane_run.specs.declared.command.Command.{Command}
use Rattle.propane_run.specs.declared.command.Command.TheVariants.{Compile, Evidence, Check, Explain, Impact, RouteMap, CheckMap, Lint, Audit, Migrate}
use Rattle.propane_run.specs.declared.command.Command.TheVariants.{Sample, Help, Version, Promises, Maps, Between, Renew, Reuse, Compare, Under, After}
use Rattle.propane_run.specs.Ends.{EndsRight, Compiles as EndsCompiling}
use Rattle.propane_run.specs.Run.{Job}
use Rattle.propane_run.specs.Words.{names_read}
use Rattle.propane_run.proofs.ByCommand.Audit as audit
use Rattle.propane_run.proofs.ByCommand.Between as between
use Rattle.propane_run.proofs.ByCommand.Check as check
use Rattle.propane_run.proofs.ByCommand.CheckMap as check_map
use Rattle.propane_run.proofs.ByCommand.Compare as compare
use Rattle.propane_run.proofs.ByCommand.Explain as explain
use Rattle.propane_run.proofs.ByCommand.Lint as lint
use Rattle.propane_run.proofs.ByCommand.Maps as maps
use Rattle.propane_run.proofs.ByCommand.Migrate as migrate
use Rattle.propane_run.proofs.ByCommand.Renew as renew
use Rattle.propane_run.proofs.ByCommand.Reuse as reuse
use Rattle.propane_run.proofs.ByCommand.RouteMap as route_map
use Rattle.propane_run.proofs.Compilers as compilers
use Rattle.propane_run.proofs.Roles.{Compiles}

module _ {O E : Type 0} (ot : O → Option (List ℕ)) (of : O → ℕ) (et : E → Option (List ℕ)) (ef : E → ℕ) (out out' : O) (err err' : E) (ended : Status) where
  -- how it ends, if no count rises of the sink that is to take something
  abbrev pub Succeeds : Type 0
  Succeeds = (Rose (of out) (of out') → ⊥) → (ended ≡ NoMemory) ⊎ (ended ≡ Done)

  abbrev pub Fails : Type 0
  Fails = (Rose (of out) (of out') → ⊥) → (ended ≡ NoMemory) ⊎ (ended ≡ CheckFails)

  abbrev pub Refuses : List ℕ → Type 0
  Refuses l = (Rose (ef err) (ef err') → ⊥) → (ended ≡ NoMemory) ⊎ (ended ≡ Refused) × Whole et l err err' × (out' ≡ out)

  -- a text of the program's own
  own : (bytes : List ℕ) → Gives ot of et ef out out' err err' ended (λ what. what ≡ text bytes) → Succeeds
  own bytes (inl m) calm = inl m
  own bytes (inr w) calm = let is = w.1 in inr (text_sent ot of et ef out out' err err' ended bytes calm (rw is at w.2))

  module _ (holds : Holds) (words : List (List ℕ)) where
    -- what its bytes come to is delivered
    abbrev pub GivesOf : Command → Type 0
    GivesOf c = Gives ot of et ef out out' err err' ended (SaidOfTold holds (names_read words c) (Job c))

    compiling : (c : Command) → Compiles c → GivesOf c → EndsCompiling holds words Succeeds Fails Refuses c
    compiling c compiles gives = λ net policy asks. (
      λ none calm. compilers.compiled_where ot of et ef out out' err err' ended holds words net policy c compiles asks none calm gives,
      λ e applies calm. compilers.refused_where ot of et ef out out' err err' ended holds words net policy c compiles asks e calm applies gives,
    )

    pub ends : (c : Command) → GivesOf c → EndsRight holds words Succeeds Fails Refuses c
    ends Compile gives = compiling Compile tt gives
    ends Evidence gives = compiling Evidence tt gives
    ends (Impact x) gives = compiling (Impact x) tt gives
    ends (Sample n) gives = compiling (Sample n) tt gives
    ends Explain gives = λ net policy asks calm. explain.explained_where ot of et ef out out' err err' ended holds words net policy asks calm gives
    ends Check gives = λ net policy config evidence asks. (
      λ passes calm. check.holds_where holds words net policy config evidence asks ot of et ef out out' err err' ended calm passes gives,
      λ fails calm. check.fails_where holds words net policy config evidence asks ot of et ef out out' err err' ended calm fails gives,
    )
    ends Audit gives = λ net policy audited asks. (
      λ passes stable calm. audit.audits_where holds words net policy audited asks ot of et ef out out' err err' ended calm passes stable gives,
      λ never calm. audit.fails_where holds words net policy audited asks ot of et ef out out' err err' ended calm never gives,
    )
    ends Migrate gives = λ config asks calm. migrate.migrated_where holds words config asks ot of et ef out out' err err' ended calm gives
    ends Lint gives = λ net policy asks. (
      λ within calm. lint.linted_where holds words net policy asks ot of et ef out out' err err' ended within calm gives,
      λ e applies calm. lint.limited_where holds words net policy asks ot of et ef out out' err err' ended e calm applies gives,
    )
    ends RouteMap gives = λ net policy asks. (
      λ none few calm. route_map.mapped_where holds words net policy asks ot of et ef out out' err err' ended none few calm gives,
      λ e applies calm. route_map.unmapped_where holds words net policy asks ot of et ef out out' err err' ended e calm applies gives,
      λ config evidence compiled many calm. route_map.too_many_where holds words net policy asks ot of et ef out out' err err' ended config evidence compiled many calm gives,
    )
    ends CheckMap gives = λ config maps asks. (
      λ few same calm. check_map.same_where holds words config maps asks ot of et ef out out' err err' ended few calm same gives,
      λ few apart calm. check_map.differ_where holds words config maps asks ot of et ef out out' err err' ended few calm apart gives,
      λ many calm. check_map.too_many_where holds words config maps asks ot of et ef out out' err err' ended many calm gives,
    )
    ends (Help topic) gives = own (help_text topic) gives
    ends Version gives = own version_text gives
    ends Promises gives = compiling Promises tt gives
    ends Maps gives = λ config asks. (
      λ few calm. maps.mapped_where holds words config asks ot of et ef out out' err err' ended few calm gives,
      λ many calm. maps.too_many_where holds words config asks ot of et ef out out' err err' ended many calm gives,
    )
    ends (Between stage) gives = λ old new asks. (
      λ free calm. between.staged_where holds words stage old new asks ot of et ef out out' err err' ended free calm gives,
      λ way calm. between.told_where holds words stage old new asks ot of et ef out out' err err' ended way calm gives,
      λ n many calm. between.too_many_where holds words stage old new asks ot of et ef out out' err err' ended n many calm gives,
    )
    ends (Renew part) gives = λ net policy old asks. (
      λ none within calm. renew.renewed_where holds words part net policy old asks ot of et ef out out' err err' ended none within calm gives,
      λ e applies calm. renew.refused_where holds words part net policy old asks ot of et ef out out' err err' ended e calm applies gives,
      λ past calm. renew.past_where holds words part net policy old asks ot of et ef out out' err err' ended past calm gives,
    )
    ends (Reuse part) gives = λ net policy old olds asks. (
      λ none within same calm. reuse.reused_where holds words part net policy old olds asks ot of et ef out out' err err' ended none within same calm gives,
      λ e applies calm. reuse.refused_where holds words part net policy old olds asks ot of et ef out out' err err' ended e calm applies gives,
      λ past calm. reuse.past_where holds words part net policy old olds asks ot of et ef out out' err err' ended past calm gives,
      λ other calm. reuse.other_where holds words part net policy old olds asks ot of et ef out out' err err' ended other calm gives,
    )
    ends Compare gives = λ net old new asks. (
      λ none calm. compare.compared_where holds words net old new asks ot of et ef out out' err err' ended none calm gives,
      λ e past calm. compare.limited_where holds words net old new asks ot of et ef out out' err err' ended e past calm gives,
    )
    ends (Under outlook) gives = compiling (Under outlook) tt gives
    ends (After course) gives = compiling (After course) tt gives
