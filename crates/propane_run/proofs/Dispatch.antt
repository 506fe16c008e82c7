-- What is known of the job of each command. A line for each command, and one more where it compiles.
use Rattle.std.proofs.Common.{◌≡◌, ℕ, List, Some, Result, sym, ◌∙◌}
use Rattle.help_texts.specs.Pages.{help_text, version_text}
use Rattle.run_base.specs.Reading.{Holds}
use Rattle.run_base.specs.Said.{text}
use Rattle.run_base.proofs.Jobs.{IsJob, in_text}
use Rattle.net_base.specs.Network.{PlainNet}
use Rattle.policy_base.specs.Policies.{PlainPolicy}
use Rattle.config_base.specs.Configs.{PlainConfig}
use Rattle.evidence_base.specs.Made.{PlainCaseEvidence}
use Rattle.scenario_reader.specs.Spelled.{spelled as scenario_spelled}
use Rattle.event_reader.specs.Spelled.{spelled as events_spelled}
use Rattle.input_texts.specs.Asked.{SpellFor}
use Rattle.input_texts.specs.FaultLines.{events_line, scenario_line}
use Rattle.compile_jobs.specs.Compiling.{SaysOfThree}
use Rattle.compile_jobs.proofs.ThirdText.{compiler_of_three}
use Rattle.compile_jobs.specs.declared.written.Part.TheVariants as part
use Rattle.compile_jobs.specs.Written.{WritesPart}
use Rattle.compile_jobs.proofs.Compiling.{IsCompiler, compiler_of_two, in_words}
use Rattle.compile_jobs.proofs.ExplainLaws.{explain_job}
use Rattle.compile_jobs.proofs.SampleLaws.{sample_compiler, sample_job}
use Rattle.compile_jobs.proofs.WrittenLaws.{written_job}
use Rattle.judging_jobs.proofs.AuditLaws.{audit_job}
use Rattle.judging_jobs.proofs.CheckLaws.{check_job}
use Rattle.report_jobs.proofs.ImpactLaws.{impact_job}
use Rattle.report_jobs.specs.Impacts.{WritesImpact}
use Rattle.judging_jobs.proofs.LintLaws.{lint_job}
use Rattle.judging_jobs.proofs.CheckMapLaws.{check_map_job}
use Rattle.judging_jobs.proofs.RouteMapLaws.{route_map_job}
use Rattle.judging_jobs.proofs.MigrateLaws.{migrate_job}
use Rattle.judging_jobs.proofs.ConfigMapLaws.{config_maps_job}
use Rattle.stage_jobs.proofs.BetweenLaws.{between_job}
use Rattle.compare_jobs.proofs.CompareLaws.{compare_job}
use Rattle.renewal_jobs.proofs.RenewalLaws.{renewal_job}
use Rattle.renewal_jobs.proofs.ReuseLaws.{reuse_job}
use Rattle.report_jobs.proofs.ReplayLaws.{replay_job}
use Rattle.report_jobs.proofs.TraceLaws.{trace_job}
use Rattle.report_jobs.proofs.DrainLaws.{drain_job}
use Rattle.report_jobs.proofs.SettleLaws.{settle_job}
use Rattle.report_jobs.proofs.WaitingLaws.{waiting_job}
use Rattle.report_jobs.proofs.PromisesLaws.{promises_job}
use Rattle.report_jobs.specs.Promised.{WritesPromises}
use Rattle.report_jobs.proofs.WhatIfLaws.{whatif_job}
use Rattle.report_jobs.proofs.MultipathLaws.{multipath_job}
use Rattle.propane_run.specs.declared.command.Command.{Command}
use Rattle.propane_run.specs.declared.command.Command.TheVariants.{Compile, Evidence, Check, Explain, Impact, RouteMap, CheckMap, Lint, Audit, Migrate}
use Rattle.propane_run.specs.declared.command.Command.TheVariants.{Sample, Help, Version, Promises, Maps, Between, Renew, Reuse, Compare, Under, After}
use Rattle.propane_run.specs.declared.command.Course.{Course}
use Rattle.propane_run.specs.declared.command.Course.TheVariants.{Trace, Settle, Waiting}
use Rattle.propane_run.specs.declared.command.Outlook.{Outlook}
use Rattle.propane_run.specs.declared.command.Outlook.TheVariants.{Replay, Drain, WhatIf, Multipath}
use Rattle.propane_run.specs.Outlooks.{WritesAfter, WritesUnder}
use Rattle.propane_run.specs.Asked.{AsksAlso, AsksFor, IsFor}
use Rattle.propane_run.specs.Run.{Job}
use Rattle.propane_run.specs.Words.{names_read, words_are}
use Rattle.propane_run.proofs.Roles.{Compiles, Judges, Refuses}
use Rattle.propane_run.proofs.Asking.{asks_also, asks_for, spells, spells_also}

-- a text of the program's own is one thing
text_job : (bytes : List ℕ) (Refusing Judging : Type 0) → IsJob Refusing Judging (λ bs what. what ≡ text bytes)
text_job bytes Refusing Judging = record { form = λ bs what is. in_text bytes is; one = λ bs one other a b. a ∙ sym b }

-- what is said under a scenario, or after events
under_is : (outlook : Outlook) → IsJob (Unit {0}) ⊥ (Job (Under outlook))
under_is Replay = replay_job (Unit {0}) ⊥ tt
under_is Drain = drain_job (Unit {0}) ⊥ tt
under_is WhatIf = whatif_job (Unit {0}) ⊥ tt
under_is Multipath = multipath_job (Unit {0}) ⊥ tt

after_is : (course : Course) → IsJob (Unit {0}) ⊥ (Job (After course))
after_is Trace = trace_job (Unit {0}) ⊥ tt
after_is Settle = settle_job (Unit {0}) ⊥ tt
after_is Waiting = waiting_job (Unit {0}) ⊥ tt

-- what it says has a form, and is one thing
pub job_is : (c : Command) → IsJob (Refuses c) (Judges c) (Job c)
job_is Compile = written_job part.Config (Unit {0}) ⊥ tt
job_is Evidence = written_job part.Evidence (Unit {0}) ⊥ tt
job_is Check = check_job ⊥ (Unit {0}) tt
job_is Explain = explain_job ⊥ ⊥
job_is (Sample n) = sample_job n (Unit {0}) ⊥ tt
job_is Migrate = migrate_job ⊥ ⊥
job_is (Impact x) = impact_job x (Unit {0}) ⊥ tt
job_is RouteMap = route_map_job (Unit {0}) ⊥ tt
job_is CheckMap = check_map_job (Unit {0}) (Unit {0}) tt tt
job_is Lint = lint_job (Unit {0}) ⊥ tt
job_is Audit = audit_job ⊥ (Unit {0}) tt
job_is (Help topic) = text_job (help_text topic) ⊥ ⊥
job_is Version = text_job version_text ⊥ ⊥
job_is Promises = promises_job (Unit {0}) ⊥ tt
job_is Maps = config_maps_job (Unit {0}) ⊥ tt
job_is (Between stage) = between_job stage (Unit {0}) (Unit {0}) tt tt
job_is (Renew part) = renewal_job part (Unit {0}) ⊥ tt
job_is (Reuse part) = reuse_job part (Unit {0}) ⊥ tt
job_is Compare = compare_job (Unit {0}) ⊥ tt
job_is (Under outlook) = under_is outlook
job_is (After course) = after_is course

module _ (holds : Holds) (words : List (List ℕ)) where
  -- of two texts
  of_two : (c : Command) → words_are words ≡ Some c → IsCompiler holds (names_read words c) (Job c) (SpellFor holds (names_read words c))
      → IsCompiler holds (names_read words c) (Job c) (AsksFor holds words c)
  of_two c is compiler = in_words compiler (λ net policy. asks_for holds words c net policy is) (λ net policy. spells holds words c net policy)

  -- of three
  of_three : {V F : Type 0} (told : F → List ℕ) (spelled_by : PlainNet → List ℕ → Result V F)
      (Writes : PlainNet → PlainPolicy → V → PlainConfig → List PlainCaseEvidence → List ℕ → Type 0) (c : Command)
      → words_are words ≡ Some c → IsCompiler holds (names_read words c) (SaysOfThree told spelled_by Writes) (λ net policy. (value : V) × AsksAlso spelled_by holds words c net policy value)
  of_three told spelled_by Writes c is =
      in_words (compiler_of_three told spelled_by Writes holds (names_read words c)) (λ net policy asked. (asked.0, asks_also holds words spelled_by c net policy is asked.0 asked.1))
      (λ net policy asks. (asks.0, spells_also holds words spelled_by c net policy asks.0 asks.1))

  -- of a command that compiles, for which network and policy
  pub compiler : (c : Command) → Compiles c → words_are words ≡ Some c → IsCompiler holds (names_read words c) (Job c) (IsFor holds words c)
  compiler Compile compiles is = of_two Compile is (compiler_of_two (λ net policy. WritesPart part.Config) holds (names_read words Compile))
  compiler Evidence compiles is = of_two Evidence is (compiler_of_two (λ net policy. WritesPart part.Evidence) holds (names_read words Evidence))
  compiler (Impact x) compiles is = of_two (Impact x) is (compiler_of_two (λ net policy. WritesImpact net policy x) holds (names_read words (Impact x)))
  compiler Promises compiles is = of_two Promises is (compiler_of_two WritesPromises holds (names_read words Promises))
  compiler (Sample n) compiles is = in_words (sample_compiler holds n) (λ net policy are. record { asked = is; net_is = are.0; policy_is = are.1 }) (λ net policy asks. (asks.net_is, asks.policy_is))
  compiler (Under outlook) compiles is = of_three scenario_line scenario_spelled (WritesUnder outlook) (Under outlook) is
  compiler (After course) compiles is = of_three events_line events_spelled (WritesAfter course) (After course) is
  compiler c compiles is = absurd compiles
