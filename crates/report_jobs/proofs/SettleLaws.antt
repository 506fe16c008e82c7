-- The job that lets a network come to rest.
use Rattle.event_reader.specs.Spelled.{spelled as events_spelled}
use Rattle.settle_report.proofs.OneSettlement.{one_settlement}
use Rattle.run_base.proofs.Jobs.{IsJob}
use Rattle.input_texts.specs.FaultLines.{events_line}
use Rattle.compile_jobs.proofs.ThirdText.{job_of_three}
use Rattle.report_jobs.specs.Settles.{SaysOfTexts, WritesSettlement}

pub settle_job : (Refuses Checks : Type 0) → Refuses → IsJob Refuses Checks SaysOfTexts
settle_job Refuses Checks refuses =
    job_of_three events_line events_spelled WritesSettlement Refuses Checks refuses
    (λ net policy rules fits z events is config evidence compiled. one_settlement net policy config events.prefix events.events rules)
