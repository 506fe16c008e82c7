-- The job that traces.
use Rattle.event_base.specs.Speaking.{speakers_of}
use Rattle.event_base.specs.Steps.{opening}
use Rattle.event_reader.specs.Spelled.{spelled as events_spelled}
use Rattle.event_law.specs.Laws.{world_after}
use Rattle.trace_report.specs.Refusals.{refused_from}
use Rattle.trace_report.proofs.OneTrace.{one_trace}
use Rattle.run_base.proofs.Jobs.{IsJob}
use Rattle.input_texts.specs.FaultLines.{events_line}
use Rattle.compile_jobs.proofs.ThirdText.{job_of_three}
use Rattle.report_jobs.specs.Traced.{SaysOfTexts, WritesTrace}

pub trace_job : (Refuses Checks : Type 0) → Refuses → IsJob Refuses Checks SaysOfTexts
trace_job Refuses Checks refuses =
    job_of_three events_line events_spelled WritesTrace Refuses Checks refuses
    (λ net policy rules fits z events is config evidence compiled.
    let S = speakers_of net policy config events.prefix in
    one_trace net policy config events.prefix (refused_from S 1 events.events (opening S)) (world_after net policy config events.prefix events.events))
