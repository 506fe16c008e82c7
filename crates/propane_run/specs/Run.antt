-- What the words and the inputs come to.
use Rattle.std.specs.Prelude.{◌≡◌, ℕ, List, Option, Some, None}
use Rattle.propane_run.specs.declared.command.Command.{Command}
use Rattle.propane_run.specs.declared.command.Command.TheVariants.{Compile, Evidence, Check, Explain, Impact, RouteMap, CheckMap, Lint, Audit, Migrate}
use Rattle.propane_run.specs.declared.command.Command.TheVariants.{Sample, Help, Version, Promises, Maps, Between, Renew, Reuse, Compare, Under, After}
use Rattle.propane_run.specs.Outlooks.{WritesUnder, WritesAfter}
use Rattle.propane_run.specs.Words.{names_read, usage, words_are}
use Rattle.run_base.specs.Reading.{Holds, ReadsAll, AllHeld, FailedAs}
use Rattle.input_texts.specs.Texts.{OfTwoTexts}
use Rattle.input_texts.specs.FaultLines.{events_line, scenario_line}
use Rattle.event_reader.specs.Spelled.{spelled as events_spelled}
use Rattle.scenario_reader.specs.Spelled.{spelled as scenario_spelled}
use Rattle.compile_jobs.specs.Compiling.{SaysOfThree}
use Rattle.judging_jobs.specs.Audited as audit
use Rattle.judging_jobs.specs.Checked as check
use Rattle.compile_jobs.specs.declared.written.Part.TheVariants as part
use Rattle.compile_jobs.specs.Explained as explain
use Rattle.help_texts.specs.Pages.{help_text, version_text}
use Rattle.report_jobs.specs.Impacts as impact
use Rattle.judging_jobs.specs.Linted as lint
use Rattle.judging_jobs.specs.MapsJobs as maps
use Rattle.judging_jobs.specs.ConfigMaps as config_maps
use Rattle.stage_jobs.specs.Betweens as between
use Rattle.compare_jobs.specs.Compared as comparisons
use Rattle.judging_jobs.specs.Migrated as migrate
use Rattle.compile_jobs.specs.Sampled.{SaysOfNumber}
use Rattle.compile_jobs.specs.Written.{SaysOfPart}
use Rattle.renewal_jobs.specs.Renewing as renewals
use Rattle.renewal_jobs.specs.Reusing as reuses
use Rattle.report_jobs.specs.Promised as promises
use Rattle.run_base.specs.declared.outcome.Status.{Status}
use Rattle.run_base.specs.Said.{Delivered, IsGiven, Said, text}

-- what a command says of the bytes that it read, one for each of its names
abbrev pub Job : Command → List (List ℕ) → Said → Type 0
Job Compile = OfTwoTexts (SaysOfPart part.Config)
Job Evidence = OfTwoTexts (SaysOfPart part.Evidence)
Job Check = check.SaysOfTexts
Job Explain = OfTwoTexts explain.SaysOfPolicy
Job (Sample n) = λ bs. SaysOfNumber n
Job Migrate = migrate.SaysOfTexts
Job (Impact p) = impact.SaysOfTexts p
Job RouteMap = OfTwoTexts maps.SaysOfPolicy
Job CheckMap = maps.SaysOfTexts
Job Lint = lint.SaysOfTexts
Job Audit = audit.SaysOfTexts
Job (Help topic) = λ bs what. what ≡ text (help_text topic)
Job Version = λ bs what. what ≡ text version_text
Job Promises = promises.SaysOfTexts
Job Maps = config_maps.SaysOfTexts
Job (Between stage) = between.SaysOfTexts stage
Job (Renew part) = renewals.SaysOfTexts part
Job (Reuse part) = reuses.SaysOfTexts part
Job Compare = comparisons.SaysOfTexts
Job (Under outlook) = SaysOfThree scenario_line scenario_spelled (WritesUnder outlook)
Job (After course) = SaysOfThree events_line events_spelled (WritesAfter course)

abbrev pub IsAnswerOf : Holds → (List ℕ → Type 0) → List (List ℕ) → Option Command → Said → Type 0
IsAnswerOf holds rose words None what = what ≡ usage
IsAnswerOf holds rose words (Some c) what = ReadsAll holds rose (names_read words c) (λ bs. IsGiven (Job c bs)) what

-- The words are judged; the names of a command are read in order; its job says what their bytes come to.
abbrev pub IsAnswer : Holds → (List ℕ → Type 0) → List (List ℕ) → Said → Type 0
IsAnswer holds rose words what = IsAnswerOf holds rose words (words_are words) what

-- A run: an answer of the words and the inputs, delivered. How often a reading failed goes with the answer.
pub record Ran {O E : Type 0} (out_taken : O → Option (List ℕ)) (out_faults : O → ℕ) (err_taken : E → Option (List ℕ)) (err_faults : E → ℕ)
    (holds : Holds) (rose : List ℕ → Type 0) (failed failed' : ℕ) (words : List (List ℕ)) (out out' : O) (err err' : E) (ended : Status) : Type 0 where
  pub what : Said
  pub answer : IsAnswer holds rose words what
  pub reads : FailedAs what.status failed failed'
  pub sent : Delivered out_taken out_faults err_taken err_faults what out out' err err' ended

-- The words are this command, and the bytes that it read come to this.
pub record Comes (holds : Holds) (words : List (List ℕ)) (c : Command) (what : Said) : Type 0 where
  pub is : words_are words ≡ Some c
  pub bytes : List (List ℕ)
  pub held : AllHeld holds (names_read words c) bytes
  pub says : Job c bytes what
