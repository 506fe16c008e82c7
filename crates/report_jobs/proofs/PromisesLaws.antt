-- The job that tells what a policy promises.
use Rattle.run_base.proofs.Jobs.{IsJob}
use Rattle.compile_jobs.proofs.Compiling.{job_of_compiled}
use Rattle.report_jobs.specs.Promised.{SaysOfTexts, WritesPromises}
use Rattle.report_jobs.proofs.OneText.{one_text}

pub promises_job : (Refuses Checks : Type 0) → Refuses → IsJob Refuses Checks SaysOfTexts
promises_job Refuses Checks refuses = job_of_compiled WritesPromises Refuses Checks refuses (λ net policy config evidence. one_text net policy config config)
