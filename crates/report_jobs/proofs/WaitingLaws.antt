-- The job that tells what waits.
use Rattle.event_law.specs.Laws.{world_after}
use Rattle.event_reader.specs.Spelled.{spelled as events_spelled}
use Rattle.waiting_report.proofs.OneText.{one_waiting_text}
use Rattle.run_base.proofs.Jobs.{IsJob}
use Rattle.input_texts.specs.FaultLines.{events_line}
use Rattle.compile_jobs.proofs.ThirdText.{job_of_three}
use Rattle.report_jobs.specs.Waits.{SaysOfTexts, WritesWaiting}

pub waiting_job : (Refuses Checks : Type 0) → Refuses → IsJob Refuses Checks SaysOfTexts
waiting_job Refuses Checks refuses =
    job_of_three events_line events_spelled WritesWaiting Refuses Checks refuses
    (λ net policy rules fits z events is config evidence compiled. one_waiting_text net (world_after net policy config events.prefix events.events))
