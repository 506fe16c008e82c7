-- What `between` says of two configuration texts.
use Rattle.std.specs.Prelude.{◌≡◌, ℕ, List, [], ◌∷◌, ◌++◌, codes}
use Rattle.std.specs.Fmt.{decimal}
use Rattle.net_base.specs.declared.numbers.Tag.{Tag}
use Rattle.config_base.specs.Configs.{PlainConfig}
use Rattle.config_text.specs.Spelled.{Spells}
use Rattle.config_reader.specs.Text.{spelled}
use Rattle.run_base.specs.declared.outcome.Status.TheVariants.{Refused}
use Rattle.run_base.specs.Said.{Said, text, line, failing}
use Rattle.config_reader.specs.declared.fault.ConfigFault.{ConfigFault}
use Rattle.config_reader.specs.Faults as config
use Rattle.input_texts.specs.FaultLines.{fault_line}
use Rattle.input_texts.specs.Texts.{OfRead}
use Rattle.stage_check.specs.declared.judging.Verdict.{Verdict}
use Rattle.stage_check.specs.declared.judging.Verdict.TheVariants.{MayMix, Unlike, TooManyLines, SharedTag, LowPref}
use Rattle.stage_check.specs.declared.which.Stage.{Stage}
use Rattle.stage_check.specs.Laws.{AreRollouts}
use Rattle.stage_check.specs.Stages.{stage_of}
use Rattle.stage_check.specs.Verdicts.{verdict}

-- ---- lines

-- the fault of the old configuration's text, and of the new one's
abbrev pub before_line : ConfigFault → List ℕ
before_line = fault_line config.told (codes "before config")

abbrev pub after_line : ConfigFault → List ℕ
after_line = fault_line config.told (codes "after config")

abbrev pub numbered : List ℕ → ℕ → List ℕ
numbered words number = words ++ decimal number ++ codes "\n"

abbrev pub shared_line : Tag → List ℕ
shared_line t = codes "shared tag " ++ decimal t.asn ++ codes ":0:" ++ decimal t.value ++ codes "\n"

-- the refusal that a stage would have so many lines
abbrev pub too_many_lines : ℕ → List ℕ
too_many_lines n = numbered (codes "propane: refused 8 too-many-lines number ") n

-- the line of what is in the way
abbrev pub way_line : Verdict → List ℕ
way_line MayMix = []
way_line (Unlike n) = numbered (codes "unlike router ") n
way_line (TooManyLines n) = too_many_lines n
way_line (SharedTag t) = shared_line t
way_line (LowPref n) = numbered (codes "low pref ") n

-- ---- what is said

-- The text of the stage is written, which makes a rollout with the other stage.
pub record WritesStage (stage : Stage) (old new : PlainConfig) (what : Said) : Type 0 where
  pub rollouts : AreRollouts old new
  pub bytes : List ℕ
  pub spells : Spells bytes (stage_of stage old new)
  pub said : what ≡ text bytes

-- a router that isn't the same in both, a tag that stands in both, or a preference that is too low
abbrev pub IsInTheWay : Verdict → Type 0
IsInTheWay (Unlike n) = Unit {0}
IsInTheWay (SharedTag t) = Unit {0}
IsInTheWay (LowPref n) = Unit {0}
IsInTheWay _ = ⊥

-- It is written where nothing is in the way. Too many lines are refused, and anything else that is in the way is told.
abbrev pub SaysOfVerdict : Stage → PlainConfig → PlainConfig → Verdict → Said → Type 0
SaysOfVerdict stage old new MayMix what = WritesStage stage old new what
SaysOfVerdict stage old new (TooManyLines n) what = what ≡ line Refused (way_line (TooManyLines n))
SaysOfVerdict stage old new (Unlike n) what = what ≡ failing (way_line (Unlike n))
SaysOfVerdict stage old new (SharedTag t) what = what ≡ failing (way_line (SharedTag t))
SaysOfVerdict stage old new (LowPref n) what = what ≡ failing (way_line (LowPref n))

abbrev pub SaysOfConfigs : Stage → PlainConfig → PlainConfig → Said → Type 0
SaysOfConfigs stage old new what = SaysOfVerdict stage old new (verdict old new) what

-- The old configuration is read, and then the new one. What is wrong first is said, or what follows from both.
abbrev pub SaysOfPair : Stage → List ℕ → List ℕ → Said → Type 0
SaysOfPair stage before after what = OfRead before_line (spelled before) (λ old. OfRead after_line (spelled after) (SaysOfConfigs stage old)) what

-- where these are the two texts that were read
abbrev pub SaysOfTexts : Stage → List (List ℕ) → Said → Type 0
SaysOfTexts stage (before ∷ after ∷ []) what = SaysOfPair stage before after what
SaysOfTexts stage _ what = ⊥
