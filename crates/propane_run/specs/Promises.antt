-- What each command promises of the bytes that it has written.
use Rattle.std.specs.Prelude.{◌⊎◌, ℕ, List, Option}
use Rattle.evidence_base.specs.Made.{PlainCaseEvidence}
use Rattle.claim_law.specs.Claim.{IsKeptAtWork}
use Rattle.compile_jobs.specs.Compiled.{IsCompiled}
use Rattle.config_text.specs.Spelled.{Spells}
use Rattle.evidence_law.specs.Passes.{Passes}
use Rattle.report_jobs.specs.Drained.{WritesDrain}
use Rattle.event_reader.specs.Spelled.{spelled as events_spelled}
use Rattle.help_texts.specs.Pages.{help_text, version_text}
use Rattle.scenario_reader.specs.Spelled.{spelled as scenario_spelled}
use Rattle.report_jobs.specs.Settles.{WritesSettlement}
use Rattle.report_jobs.specs.WhatIfs.{WritesWhatIf}
use Rattle.report_jobs.specs.Spread.{WritesMultipath}
use Rattle.run_base.specs.declared.outcome.Status.{Status}
use Rattle.run_base.specs.declared.outcome.Status.TheVariants.{Done, Refused, CheckFails}
use Rattle.run_base.specs.Reading.{Holds}
use Rattle.run_base.specs.Said.{Whole}
use Rattle.propane_run.specs.declared.command.Command.{Command}
use Rattle.propane_run.specs.declared.command.Command.TheVariants.{Compile, Evidence, Check, Explain, Sample, Migrate, Impact, RouteMap, CheckMap, Lint}
use Rattle.propane_run.specs.declared.command.Command.TheVariants.{Audit, Help, Version, Promises, Maps, Between, Renew, Reuse, Compare, Under, After}
use Rattle.propane_run.specs.declared.command.Course.{Course}
use Rattle.propane_run.specs.declared.command.Course.TheVariants.{Trace, Settle, Waiting}
use Rattle.propane_run.specs.declared.command.Outlook.{Outlook}
use Rattle.propane_run.specs.declared.command.Outlook.TheVariants.{Replay, Drain, WhatIf, Multipath}
use Rattle.propane_run.specs.Answering.{AnswersRight}
use Rattle.propane_run.specs.Asked.{AsksFor, AsksOfRenewal, AsksOfReuse}
use Rattle.propane_run.specs.Auditing.{AuditsRight, TellsAuditFault}
use Rattle.propane_run.specs.Comparing.{ComparesRight, TellsComparisonLimit}
use Rattle.propane_run.specs.Staging.{TellsTheWay, TellsTooLong, WritesStage}
use Rattle.propane_run.specs.Checking.{AsksOf, ChecksRight, TellsFault}
use Rattle.propane_run.specs.Explaining.{ExplainsRight}
use Rattle.propane_run.specs.Headline.{CompilesRight, GivesEvidence}
use Rattle.propane_run.specs.Impacting.{ImpactsRight}
use Rattle.propane_run.specs.Linting.{LintsRight, TellsLimit}
use Rattle.propane_run.specs.Mapping.{MapsAgree, MapsRight, TellsDifference, TellsTooMany, WritesMaps}
use Rattle.propane_run.specs.Migrating.{MigratesRight}
use Rattle.propane_run.specs.Promising.{PromisesRight}
use Rattle.propane_run.specs.Refusing.{RefusesRight}
use Rattle.propane_run.specs.Renewing.{RenewsRight, TellsRunOut}
use Rattle.propane_run.specs.Replaying.{ReplaysRight}
use Rattle.propane_run.specs.Reusing.{ReusesRight, TellsOther}
use Rattle.propane_run.specs.Sampling.{Samples}
use Rattle.propane_run.specs.Tracing.{TracesRight}
use Rattle.propane_run.specs.Waiting.{WaitsRight}

-- What is promised of a scenario: that the text answers what is asked, and of `replay` that there is one answer.
abbrev pub AnswersUnder : {S : Type 0} → Holds → (S → Option (List ℕ)) → List (List ℕ) → Outlook → S → S → Type 0
AnswersUnder holds taken words Replay s s' = ReplaysRight holds taken words s s'
AnswersUnder holds taken words Drain s s' = AnswersRight scenario_spelled WritesDrain holds taken words (Under Drain) s s'
AnswersUnder holds taken words WhatIf s s' = AnswersRight scenario_spelled WritesWhatIf holds taken words (Under WhatIf) s s'
AnswersUnder holds taken words Multipath s s' = AnswersRight scenario_spelled WritesMultipath holds taken words (Under Multipath) s s'

-- And of events, of `trace` that it tells of what is right at the moment, and at rest what `replay` tells; of `waiting` that what it tells
-- of is right at the moment, too.
abbrev pub AnswersAfter : {S : Type 0} → Holds → (S → Option (List ℕ)) → List (List ℕ) → Course → S → S → Type 0
AnswersAfter holds taken words Trace s s' = TracesRight holds taken words s s'
AnswersAfter holds taken words Settle s s' = AnswersRight events_spelled WritesSettlement holds taken words (After Settle) s s'
AnswersAfter holds taken words Waiting s s' = WaitsRight holds taken words s s'

-- For a command and the status with which it ended: what the sink has taken that goes with the status, `out` with Done and CheckFails,
-- and `err` with Refused. A command ends with none of the three that isn't listed for it.
abbrev pub Promised : {S : Type 0} → Holds → (S → Option (List ℕ)) → List (List ℕ) → Command → Status → S → S → Type 0
Promised holds taken words Compile Done s s' =
    (claim : CompilesRight holds taken words s s') × (evidence : List PlainCaseEvidence) × IsCompiled claim.net claim.policy claim.config evidence
    × AsksFor holds words Compile claim.net claim.policy × Spells claim.bytes claim.config × IsKeptAtWork claim.net claim.policy claim.config
Promised holds taken words Compile Refused s s' = RefusesRight holds taken words Compile s s'
Promised holds taken words Evidence Done s s' = GivesEvidence holds taken words s s'
Promised holds taken words Evidence Refused s s' = RefusesRight holds taken words Evidence s s'
Promised holds taken words Check Done s s' =
    (claim : ChecksRight holds taken words s s') × (evidence : List PlainCaseEvidence) × AsksOf holds words claim.net claim.policy claim.config evidence
    × Passes claim.net claim.policy claim.config evidence × IsKeptAtWork claim.net claim.policy claim.config
Promised holds taken words Check CheckFails s s' = TellsFault holds taken words s s'
Promised holds taken words Explain Done s s' = ExplainsRight holds taken words s s'
Promised holds taken words (Sample leaves) Done s s' = Samples taken leaves s s'
Promised holds taken words (Sample leaves) Refused s s' = RefusesRight holds taken words (Sample leaves) s s'
Promised holds taken words Migrate Done s s' = MigratesRight holds taken words s s'
Promised holds taken words (Impact prefix) Done s s' = ImpactsRight holds taken words prefix s s'
Promised holds taken words (Impact prefix) Refused s s' = RefusesRight holds taken words (Impact prefix) s s'
Promised holds taken words RouteMap Done s s' = MapsRight holds taken words s s'
Promised holds taken words RouteMap Refused s s' = RefusesRight holds taken words RouteMap s s' ⊎ TellsTooMany holds taken words RouteMap s s'
Promised holds taken words CheckMap Done s s' = MapsAgree holds taken words s s'
Promised holds taken words CheckMap CheckFails s s' = TellsDifference holds taken words s s'
Promised holds taken words CheckMap Refused s s' = TellsTooMany holds taken words CheckMap s s'
Promised holds taken words Lint Done s s' = LintsRight holds taken words s s'
Promised holds taken words Lint Refused s s' = TellsLimit holds taken words s s'
Promised holds taken words Audit Done s s' = AuditsRight holds taken words s s'
Promised holds taken words Audit CheckFails s s' = TellsAuditFault holds taken words s s'
Promised holds taken words (Help topic) Done s s' = Whole taken (help_text topic) s s'
Promised holds taken words Version Done s s' = Whole taken version_text s s'
Promised holds taken words Promises Done s s' = PromisesRight holds taken words s s'
Promised holds taken words Promises Refused s s' = RefusesRight holds taken words Promises s s'
Promised holds taken words Maps Done s s' = WritesMaps holds taken words s s'
Promised holds taken words Maps Refused s s' = TellsTooMany holds taken words Maps s s'
Promised holds taken words (Between stage) Done s s' = WritesStage holds taken words stage s s'
Promised holds taken words (Between stage) CheckFails s s' = TellsTheWay holds taken words stage s s'
Promised holds taken words (Between stage) Refused s s' = TellsTooLong holds taken words stage s s'
Promised holds taken words (Renew part) Done s s' = RenewsRight holds taken words part s s'
Promised holds taken words (Renew part) Refused s s' = RefusesRight holds taken words (Renew part) s s' ⊎ TellsRunOut (AsksOfRenewal holds words part) taken s s'
Promised holds taken words (Reuse part) Done s s' = ReusesRight holds taken words part s s'
Promised holds taken words (Reuse part) Refused s s' =
    RefusesRight holds taken words (Reuse part) s s'
    ⊎ TellsRunOut (λ net policy old. (olds : List PlainCaseEvidence) × AsksOfReuse holds words part net policy old olds) taken s s'
    ⊎ TellsOther holds taken words part s s'
Promised holds taken words Compare Done s s' = ComparesRight holds taken words s s'
Promised holds taken words Compare Refused s s' = TellsComparisonLimit holds taken words s s'
Promised holds taken words (Under outlook) Done s s' = AnswersUnder holds taken words outlook s s'
Promised holds taken words (Under outlook) Refused s s' = RefusesRight holds taken words (Under outlook) s s'
Promised holds taken words (After course) Done s s' = AnswersAfter holds taken words course s s'
Promised holds taken words (After course) Refused s s' = RefusesRight holds taken words (After course) s s'
Promised holds taken words _ _ s s' = ⊥
