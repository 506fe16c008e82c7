-- What is said where nothing is in the way, and where something is.
use Rattle.std.proofs.Common.{◌≡◌, ℕ, List, refl, sym, ap, subst}
use Rattle.config_base.specs.Configs.{PlainConfig, IsConfig}
use Rattle.config_text.specs.Spelled.{Spells}
use Rattle.run_base.specs.declared.outcome.Status.TheVariants.{Refused}
use Rattle.run_base.specs.Said.{failing, line, text}
use Rattle.stage_check.specs.declared.judging.Verdict.{Verdict}
use Rattle.stage_check.specs.declared.judging.Verdict.TheVariants.{MayMix, Unlike, TooManyLines, SharedTag, LowPref}
use Rattle.stage_check.specs.declared.which.Stage.{Stage}
use Rattle.stage_check.proofs.Free.{stages_are_rollouts}
use Rattle.stage_check.specs.Stages.{stage_of}
use Rattle.stage_check.specs.Verdicts.{verdict}
use Rattle.stage_jobs.specs.Betweens.{IsInTheWay, SaysOfConfigs, SaysOfVerdict, too_many_lines, way_line}

module _ (stage : Stage) (old new : PlainConfig) where
  pub staged : (bytes : List ℕ) (config : PlainConfig) → IsConfig old → IsConfig new → verdict old new ≡ MayMix → config ≡ stage_of stage old new → Spells bytes config
      → SaysOfConfigs stage old new (text bytes)
  staged bytes config lawful lawful' free is spells =
      subst (λ v. SaysOfVerdict stage old new v (text bytes)) (sym free)
      (record { rollouts = stages_are_rollouts old new lawful lawful' free; bytes = bytes; spells = subst (Spells bytes) is spells; said = refl })

  in_the_way : (v : Verdict) → IsInTheWay v → SaysOfVerdict stage old new v (failing (way_line v))
  in_the_way MayMix way = absurd way
  in_the_way (Unlike n) way = refl
  in_the_way (TooManyLines n) way = absurd way
  in_the_way (SharedTag t) way = refl
  in_the_way (LowPref n) way = refl

  pub told : (v : Verdict) (bytes : List ℕ) → verdict old new ≡ v → IsInTheWay v → bytes ≡ way_line v → SaysOfConfigs stage old new (failing bytes)
  told v bytes is way written = subst (λ w. SaysOfVerdict stage old new w (failing bytes)) (sym is) (subst (λ l. SaysOfVerdict stage old new v (failing l)) (sym written) (in_the_way v way))

  pub refused : (n : ℕ) (bytes : List ℕ) → verdict old new ≡ TooManyLines n → bytes ≡ too_many_lines n → SaysOfConfigs stage old new (line Refused bytes)
  refused n bytes is written = subst (λ w. SaysOfVerdict stage old new w (line Refused bytes)) (sym is) (ap (line Refused) written)
