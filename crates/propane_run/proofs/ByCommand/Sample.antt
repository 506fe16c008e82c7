-- What a run of `sample` has written.
use Rattle.std.proofs.Common.{ℕ, List, Option, inl, inr, ◌∙◌}
use Rattle.run_base.specs.Reading.{Holds}
use Rattle.run_base.specs.Said.{text, Whole}
use Rattle.run_base.proofs.Jobs.{out_is, status_is}
use Rattle.compile_jobs.specs.Sampled.{SaysOfNumber}
use Rattle.propane_run.specs.declared.command.Command.TheVariants.{Sample}
use Rattle.propane_run.specs.Run.{Comes}
use Rattle.propane_run.specs.Sampling.{Samples}

module _ (holds : Holds) (words : List (List ℕ)) (n : ℕ) {S : Type 0} (taken : S → Option (List ℕ)) (before now : S) (b : List ℕ) (written : Whole taken b before now) where
  summary_of : SaysOfNumber n (text b) → Samples taken n before now
  summary_of (inr h) = absurd (let s = status_is _ _ h.2 in cc)
  summary_of (inl h) = record { config = h.0; evidence = h.1; compiled = h.3; written = rw (out_is _ _ h.5 ∙ h.4) at written }

  -- what is written is the summary
  pub sampled : Comes holds words (Sample n) (text b) → Samples taken n before now
  sampled comes = summary_of comes.says
