-- The job that writes a part of what is compiled.
use Rattle.std.proofs.Common.{◌≡◌, ℕ, List, sym, ◌∙◌}
use Rattle.config_base.specs.Configs.{PlainConfig}
use Rattle.evidence_base.specs.Made.{PlainCaseEvidence}
use Rattle.run_base.proofs.Jobs.{IsJob}
use Rattle.input_texts.specs.Texts.{OfTwoTexts}
use Rattle.compile_jobs.specs.declared.written.Part.{Part}
use Rattle.compile_jobs.specs.declared.written.Part.TheVariants.{Config, Evidence}
use Rattle.compile_jobs.specs.Written.{SaysOfPart, WritesPart}
use Rattle.compile_jobs.proofs.Compiling.{job_of_compiled}

-- a part has one text
one_text : (part : Part) (config : PlainConfig) (evidence : List PlainCaseEvidence) (one other : List ℕ) → WritesPart part config evidence one → WritesPart part config evidence other → one ≡ other
one_text Config config evidence one other a b = a.written ∙ sym b.written
one_text Evidence config evidence one other a b = a ∙ sym b

pub written_job : (part : Part) (Refuses Checks : Type 0) → Refuses → IsJob Refuses Checks (OfTwoTexts (SaysOfPart part))
written_job part Refuses Checks refuses = job_of_compiled (λ net policy. WritesPart part) Refuses Checks refuses (λ net policy. one_text part)
