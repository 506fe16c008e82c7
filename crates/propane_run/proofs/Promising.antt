-- Each command has written what it promises. A line for each command and each status with which it promises something.
use Rattle.std.proofs.Common.{ℕ, List, Option}
use Rattle.run_base.specs.declared.outcome.Status.TheVariants.{Done, Refused, CheckFails}
use Rattle.run_base.specs.Reading.{Holds}
use Rattle.run_base.specs.Said.{text, line, failing, Whole}
use Rattle.run_base.proofs.Jobs.{out_is}
use Rattle.report_jobs.specs.Drained.{WritesDrain}
use Rattle.event_reader.specs.Spelled.{spelled as events_spelled}
use Rattle.input_texts.specs.FaultLines.{events_line, scenario_line}
use Rattle.scenario_reader.specs.Spelled.{spelled as scenario_spelled}
use Rattle.report_jobs.specs.Settles.{WritesSettlement}
use Rattle.report_jobs.specs.WhatIfs.{WritesWhatIf}
use Rattle.report_jobs.specs.Spread.{WritesMultipath}
use Rattle.propane_run.specs.declared.command.Command.{Command}
use Rattle.propane_run.specs.declared.command.Command.TheVariants.{Compile, Evidence, Check, Explain, Impact, RouteMap, CheckMap, Lint, Audit, Migrate}
use Rattle.propane_run.specs.declared.command.Command.TheVariants.{Sample, Help, Version, Promises, Maps, Between, Renew, Reuse, Compare, Under, After}
use Rattle.propane_run.specs.declared.command.Course.{Course}
use Rattle.propane_run.specs.declared.command.Course.TheVariants.{Trace, Settle, Waiting}
use Rattle.propane_run.specs.declared.command.Outlook.{Outlook}
use Rattle.propane_run.specs.declared.command.Outlook.TheVariants.{Replay, Drain, WhatIf, Multipath}
use Rattle.propane_run.specs.Promises.{AnswersAfter, AnswersUnder, Promised}
use Rattle.propane_run.specs.Run.{Comes}
use Rattle.propane_run.proofs.ByCommand.Answered as answered
use Rattle.propane_run.proofs.ByCommand.Audit as audit
use Rattle.propane_run.proofs.ByCommand.Between as between
use Rattle.propane_run.proofs.ByCommand.Check as check
use Rattle.propane_run.proofs.ByCommand.CheckMap as check_map
use Rattle.propane_run.proofs.ByCommand.Compare as compare
use Rattle.propane_run.proofs.ByCommand.Explain as explain
use Rattle.propane_run.proofs.ByCommand.Impact as impact
use Rattle.propane_run.proofs.ByCommand.Lint as lint
use Rattle.propane_run.proofs.ByCommand.Maps as maps
use Rattle.propane_run.proofs.ByCommand.Migrate as migrate
use Rattle.propane_run.proofs.ByCommand.Promises as promises
use Rattle.propane_run.proofs.ByCommand.Renew as renew
use Rattle.propane_run.proofs.ByCommand.Reuse as reuse
use Rattle.propane_run.proofs.ByCommand.Replay as replay
use Rattle.propane_run.proofs.ByCommand.RouteMap as route_map
use Rattle.propane_run.proofs.ByCommand.Sample as sample
use Rattle.propane_run.proofs.ByCommand.Trace as trace
use Rattle.propane_run.proofs.ByCommand.Waiting as waiting
use Rattle.propane_run.proofs.ByCommand.Written as written_by
use Rattle.propane_run.proofs.Compilers as compilers
use Rattle.propane_run.proofs.Roles.{Judges, Refuses}

module _ {S : Type 0} (holds : Holds) (words : List (List ℕ)) (taken : S → Option (List ℕ)) (before now : S) (b : List ℕ) (written : Whole taken b before now) where
  -- under a scenario, or after events
  under : (outlook : Outlook) → Comes holds words (Under outlook) (text b) → AnswersUnder holds taken words outlook before now
  under Replay comes = replay.right holds words taken before now b written comes
  under Drain comes = answered.right scenario_line scenario_spelled WritesDrain holds words (Under Drain) taken before now b written comes.is comes.bytes comes.held comes.says
  under WhatIf comes = answered.right scenario_line scenario_spelled WritesWhatIf holds words (Under WhatIf) taken before now b written comes.is comes.bytes comes.held comes.says
  under Multipath comes = answered.right scenario_line scenario_spelled WritesMultipath holds words (Under Multipath) taken before now b written comes.is comes.bytes comes.held comes.says

  after : (course : Course) → Comes holds words (After course) (text b) → AnswersAfter holds taken words course before now
  after Trace comes = trace.right holds words taken before now b written comes
  after Settle comes = answered.right events_line events_spelled WritesSettlement holds words (After Settle) taken before now b written comes.is comes.bytes comes.held comes.says
  after Waiting comes = waiting.right holds words taken before now b written comes

  pub done : (c : Command) → Comes holds words c (text b) → Promised holds taken words c Done before now
  done Compile comes = written_by.compiled holds words taken before now b written comes
  done Evidence comes = written_by.given holds words taken before now b written comes
  done Check comes = check.right holds words taken before now b written comes
  done Explain comes = explain.right holds words taken before now b written comes
  done (Sample n) comes = sample.sampled holds words n taken before now b written comes
  done Migrate comes = migrate.right holds words taken before now b written comes
  done (Impact x) comes = impact.right holds words taken before now b written x comes
  done RouteMap comes = route_map.right holds words taken before now b written comes
  done CheckMap comes = check_map.right holds words taken before now b written comes
  done Lint comes = lint.right holds words taken before now b written comes
  done Audit comes = audit.right holds words taken before now b written comes
  done (Help topic) comes = rw (out_is _ _ comes.says) at written
  done Version comes = rw (out_is _ _ comes.says) at written
  done Promises comes = promises.right holds words taken before now b written comes
  done Maps comes = maps.right holds words taken before now b written comes
  done (Between stage) comes = between.right holds words stage taken before now b written comes
  done (Renew part) comes = renew.right holds words part taken before now b written comes
  done (Reuse part) comes = reuse.right holds words part taken before now b written comes
  done Compare comes = compare.right holds words taken before now b written comes
  done (Under outlook) comes = under outlook comes
  done (After course) comes = after course comes

  pub refused : (c : Command) → Refuses c → Comes holds words c (line Refused b) → Promised holds taken words c Refused before now
  refused RouteMap refuses comes = route_map.refused holds words taken before now b written comes
  refused CheckMap refuses comes = check_map.refused holds words taken before now b written comes
  refused Lint refuses comes = lint.refused holds words taken before now b written comes
  refused Maps refuses comes = maps.refused holds words taken before now b written comes
  refused (Between stage) refuses comes = between.refused holds words stage taken before now b written comes
  refused (Renew part) refuses comes = renew.refused holds words part taken before now b written comes
  refused (Reuse part) refuses comes = reuse.refused holds words part taken before now b written comes
  refused Compare refuses comes = compare.refused holds words taken before now b written comes
  refused Compile refuses comes = compilers.refused holds words taken before now b written Compile refuses comes
  refused Evidence refuses comes = compilers.refused holds words taken before now b written Evidence refuses comes
  refused (Impact x) refuses comes = compilers.refused holds words taken before now b written (Impact x) refuses comes
  refused (Sample n) refuses comes = compilers.refused holds words taken before now b written (Sample n) refuses comes
  refused Promises refuses comes = compilers.refused holds words taken before now b written Promises refuses comes
  refused (Under outlook) refuses comes = compilers.refused holds words taken before now b written (Under outlook) refuses comes
  refused (After course) refuses comes = compilers.refused holds words taken before now b written (After course) refuses comes
  refused c refuses comes = absurd refuses

  pub failed : (c : Command) → Judges c → Comes holds words c (failing b) → Promised holds taken words c CheckFails before now
  failed Check judges comes = check.fails holds words taken before now b written comes
  failed CheckMap judges comes = check_map.fails holds words taken before now b written comes
  failed Audit judges comes = audit.fails holds words taken before now b written comes
  failed (Between stage) judges comes = between.fails holds words stage taken before now b written comes
  failed c judges comes = absurd judges
