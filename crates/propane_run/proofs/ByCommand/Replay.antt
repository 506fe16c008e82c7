-- What a run of `replay` has written: the report of the one outcome that is stable with ties broken.
use Rattle.std.proofs.Common.{ℕ, List, Option}
use Rattle.run_base.specs.Reading.{Holds}
use Rattle.run_base.specs.Said.{text, Whole}
use Rattle.input_texts.specs.FaultLines.{scenario_line}
use Rattle.scenario_reader.specs.Spelled.{spelled as scenario_spelled}
use Rattle.scenario_reader.proofs.ReadPrefixes.{spelled_prefix}
use Rattle.report_jobs.specs.Replayed.{WritesReport}
use Rattle.report_jobs.proofs.ReplayLaws.{one_outcome}
use Rattle.propane_run.specs.declared.command.Command.TheVariants.{Under}
use Rattle.propane_run.specs.declared.command.Outlook.TheVariants.{Replay}
use Rattle.propane_run.specs.Replaying.{ReplaysRight}
use Rattle.propane_run.specs.Run.{Comes}
use Rattle.propane_run.proofs.Asking.{asked_rules}
use Rattle.propane_run.proofs.ByCommand.Answered as answered

module _ {S : Type 0} (holds : Holds) (words : List (List ℕ)) (taken : S → Option (List ℕ)) (before now : S) (b : List ℕ) (written : Whole taken b before now) where
  -- what it writes is the report
  pub right : Comes holds words (Under Replay) (text b) → ReplaysRight holds taken words before now
  right comes =
      let a = answered.right scenario_line scenario_spelled WritesReport holds words (Under Replay) taken before now b written comes.is comes.bytes comes.held comes.says in
      let rules = asked_rules holds words a.asked.asked in
      let prefix = spelled_prefix a.net a.asked.third a.value a.asked.spelled in
      record {
        answer = a;
        only = λ other size settled. one_outcome a.net a.policy a.made.config a.made.evidence a.value rules.0 rules.1 prefix a.made.compiled.1 other a.answers.outcome size a.answers.size settled a.answers.settled;
      }
