-- What a run of `trace` has written: the trace of the events, whose quiet end is a replay.
use Rattle.std.proofs.Common.{ℕ, List, Option, refl}
use Rattle.run_base.specs.Reading.{Holds}
use Rattle.run_base.specs.Said.{text, Whole}
use Rattle.input_texts.specs.FaultLines.{events_line}
use Rattle.event_law.specs.Laws.{world_after}
use Rattle.event_law.proofs.Moments.{every_moment_is_right}
use Rattle.event_reader.specs.Spelled.{spelled as events_spelled}
use Rattle.event_reader.proofs.ReadPrefixes.{spelled_prefix}
use Rattle.report_jobs.specs.Traced.{WritesTrace}
use Rattle.report_jobs.proofs.Failed.{is_failed}
use Rattle.report_jobs.proofs.Replays.{quiet_replays}
use Rattle.propane_run.specs.declared.command.Command.TheVariants.{After}
use Rattle.propane_run.specs.declared.command.Course.TheVariants.{Trace}
use Rattle.propane_run.specs.Run.{Comes}
use Rattle.propane_run.specs.Tracing.{TracesRight}
use Rattle.propane_run.proofs.Asking.{asked_rules}
use Rattle.propane_run.proofs.ByCommand.Answered as answered

module _ {S : Type 0} (holds : Holds) (words : List (List ℕ)) (taken : S → Option (List ℕ)) (before now : S) (b : List ℕ) (written : Whole taken b before now) where
  -- what it writes is the trace
  pub right : Comes holds words (After Trace) (text b) → TracesRight holds taken words before now
  right comes =
      let a = answered.right events_line events_spelled WritesTrace holds words (After Trace) taken before now b written comes.is comes.bytes comes.held comes.says in
      let rules = asked_rules holds words a.asked.asked in
      let prefix = spelled_prefix a.net a.asked.third a.value a.asked.spelled in
      let config = a.made.config in
      let passes = a.made.compiled.1 in
      record {
        answer = a;
        world = world_after a.net a.policy config a.value.prefix a.value.events;
        after = refl;
        moment = every_moment_is_right a.net a.policy config a.made.evidence rules.0 rules.1 passes a.value.prefix prefix a.value.events;
        failed = is_failed a.net a.policy config a.value.prefix a.value.events rules.0;
        replayed = quiet_replays a.net a.policy config a.made.evidence rules.0 rules.1 passes a.value prefix a.bytes a.answers;
      }
