-- What a run of `waiting` has written: what waits after the events.
use Rattle.std.proofs.Common.{ℕ, List, Option}
use Rattle.run_base.specs.Reading.{Holds}
use Rattle.run_base.specs.Said.{text, Whole}
use Rattle.input_texts.specs.FaultLines.{events_line}
use Rattle.event_law.proofs.Moments.{every_moment_is_right}
use Rattle.event_reader.specs.Spelled.{spelled as events_spelled}
use Rattle.event_reader.proofs.ReadPrefixes.{spelled_prefix}
use Rattle.report_jobs.specs.Waits.{WritesWaiting}
use Rattle.propane_run.specs.declared.command.Command.TheVariants.{After}
use Rattle.propane_run.specs.declared.command.Course.TheVariants.{Waiting}
use Rattle.propane_run.specs.Run.{Comes}
use Rattle.propane_run.specs.Waiting.{WaitsRight}
use Rattle.propane_run.proofs.Asking.{asked_rules}
use Rattle.propane_run.proofs.ByCommand.Answered as answered

module _ {S : Type 0} (holds : Holds) (words : List (List ℕ)) (taken : S → Option (List ℕ)) (before now : S) (b : List ℕ) (written : Whole taken b before now) where
  -- what it writes is what waits
  pub right : Comes holds words (After Waiting) (text b) → WaitsRight holds taken words before now
  right comes =
      let a = answered.right events_line events_spelled WritesWaiting holds words (After Waiting) taken before now b written comes.is comes.bytes comes.held comes.says in
      let rules = asked_rules holds words a.asked.asked in
      record {
        answer = a;
        moment = every_moment_is_right a.net a.policy a.made.config a.made.evidence rules.0 rules.1 a.made.compiled.1 a.value.prefix
            (spelled_prefix a.net a.asked.third a.value a.asked.spelled) a.value.events;
      }
