-- The job that writes a stage between two configuration texts.
use Rattle.std.proofs.Common.{◌≡◌, ◌≢◌, ℕ, List, [], ◌∷◌, Ok, refl, sym, ap, ◌∙◌}
use Rattle.config_base.specs.Configs.{PlainConfig}
use Rattle.config_reader.specs.Text.{spelled}
use Rattle.run_base.specs.declared.outcome.Status.TheVariants.{BadInput}
use Rattle.run_base.specs.Said.{Said, text}
use Rattle.run_base.proofs.Jobs.{IsJob, IsJobSaid, in_failing, in_refusal, in_text}
use Rattle.input_texts.specs.Texts.{OfRead}
use Rattle.input_texts.proofs.Spelling.{at_read, of_read, one_of_read, read_form}
use Rattle.stage_check.specs.declared.judging.Verdict.{Verdict}
use Rattle.stage_check.specs.declared.judging.Verdict.TheVariants.{MayMix, Unlike, TooManyLines, SharedTag, LowPref}
use Rattle.stage_check.specs.declared.which.Stage.{Stage}
use Rattle.stage_check.specs.Verdicts.{verdict}
use Rattle.stage_jobs.specs.Betweens.{SaysOfConfigs, SaysOfTexts, SaysOfVerdict, after_line, before_line}

-- what is said of the new text, beside this old configuration
abbrev OfAfter : Stage → List ℕ → PlainConfig → Said → Type 0
OfAfter stage after old what = OfRead after_line (spelled after) (SaysOfConfigs stage old) what

-- ---- the form of what is said

module _ (Refuses Checks : Type 0) (refuses : Refuses) (checks : Checks) (stage : Stage) where
  verdict_form : (old new : PlainConfig) (v : Verdict) (what : Said) → SaysOfVerdict stage old new v what → IsJobSaid Refuses Checks what
  verdict_form old new MayMix what says = in_text says.bytes says.said
  verdict_form old new (Unlike n) what says = in_failing checks _ says
  verdict_form old new (TooManyLines n) what says = in_refusal refuses _ says
  verdict_form old new (SharedTag t) what says = in_failing checks _ says
  verdict_form old new (LowPref n) what says = in_failing checks _ says

  texts_form : (bs : List (List ℕ)) (what : Said) → SaysOfTexts stage bs what → IsJobSaid Refuses Checks what
  texts_form [] what h = absurd h
  texts_form (x ∷ []) what h = absurd h
  texts_form (x ∷ y ∷ []) what h =
      read_form before_line (spelled x) (OfAfter stage y) Refuses Checks
      (λ old. read_form after_line (spelled y) (SaysOfConfigs stage old) Refuses Checks (λ new w. verdict_form old new (verdict old new) w)) what h
  texts_form (x ∷ y ∷ z ∷ more) what h = absurd h

-- ---- one thing is said

module _ (stage : Stage) where
  one_of_verdict : (old new : PlainConfig) (v : Verdict) (one other : Said) → SaysOfVerdict stage old new v one → SaysOfVerdict stage old new v other → one ≡ other
  one_of_verdict old new MayMix one other a b = a.said ∙ ap text (a.spells.written ∙ sym b.spells.written) ∙ sym b.said
  one_of_verdict old new (Unlike n) one other a b = a ∙ sym b
  one_of_verdict old new (TooManyLines n) one other a b = a ∙ sym b
  one_of_verdict old new (SharedTag t) one other a b = a ∙ sym b
  one_of_verdict old new (LowPref n) one other a b = a ∙ sym b

  one_of_texts : (bs : List (List ℕ)) (one other : Said) → SaysOfTexts stage bs one → SaysOfTexts stage bs other → one ≡ other
  one_of_texts [] one other a b = absurd a
  one_of_texts (x ∷ []) one other a b = absurd a
  one_of_texts (x ∷ y ∷ []) one other a b =
      one_of_read before_line (spelled x) (OfAfter stage y)
      (λ old old_is. one_of_read after_line (spelled y) (SaysOfConfigs stage old) (λ new new_is v w. one_of_verdict old new (verdict old new) v w)) one other a b
  one_of_texts (x ∷ y ∷ z ∷ more) one other a b = absurd a

pub between_job : (stage : Stage) (Refuses Checks : Type 0) → Refuses → Checks → IsJob Refuses Checks (SaysOfTexts stage)
between_job stage Refuses Checks refuses checks = record { form = texts_form Refuses Checks refuses checks stage; one = one_of_texts stage }

-- ---- of which configurations a thing is said

-- It is said of these two texts, which spell these configurations.
pub record OfConfigs (stage : Stage) (bs : List (List ℕ)) (what : Said) : Type 0 where
  pub before : List ℕ
  pub after : List ℕ
  pub texts : bs ≡ before ∷ after ∷ []
  pub old : PlainConfig
  pub new : PlainConfig
  pub old_spelled : spelled before ≡ Ok old
  pub new_spelled : spelled after ≡ Ok new
  pub says : SaysOfConfigs stage old new what

pub of_configs : (stage : Stage) (bs : List (List ℕ)) (what : Said) → what.status ≢ BadInput → SaysOfTexts stage bs what → OfConfigs stage bs what
of_configs stage [] what lawful h = absurd h
of_configs stage (x ∷ []) what lawful h = absurd h
of_configs stage (x ∷ y ∷ []) what lawful h =
    let o = of_read before_line (spelled x) (OfAfter stage y) what lawful h in
    let n = of_read after_line (spelled y) (SaysOfConfigs stage o.0) what lawful o.2 in
    record { before = x; after = y; texts = refl; old = o.0; new = n.0; old_spelled = o.1; new_spelled = n.1; says = n.2 }
of_configs stage (x ∷ y ∷ z ∷ more) what lawful h = absurd h

-- and of what two texts are known to spell
pub at_configs : (stage : Stage) (before after : List ℕ) (old new : PlainConfig) (what : Said) → spelled before ≡ Ok old → spelled after ≡ Ok new
    → SaysOfTexts stage (before ∷ after ∷ []) what → SaysOfConfigs stage old new what
at_configs stage before after old new what old_is new_is h =
    at_read after_line (spelled after) (SaysOfConfigs stage old) new what new_is (at_read before_line (spelled before) (OfAfter stage after) old what old_is h)
