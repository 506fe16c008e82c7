-- What a run of `between` has written: a stage between the configurations that it read, what is in the way, or that there are too many lines.
use Rattle.std.proofs.Common.{◌≡◌, ◌≢◌, ◌⊎◌, ℕ, List, [], ◌∷◌, Option, inl, inr, refl, sym, ap, ◌∙◌, subst}
use Rattle.input_output.specs.Outside.{Rose}
use Rattle.config_base.specs.Configs.{PlainConfig}
use Rattle.run_base.specs.declared.outcome.Status.{Status}
use Rattle.run_base.specs.declared.outcome.Status.TheVariants.{BadInput, CheckFails, Done, NoMemory, Refused}
use Rattle.run_base.specs.Reading.{Holds, AllHeld, SaidOfTold}
use Rattle.run_base.specs.Said.{Said, text, line, failing, Whole, Delivered}
use Rattle.run_base.proofs.Jobs.{err_is, out_is, status_is}
use Rattle.run_base.proofs.Sent.{Gives, failing_sent, line_sent, text_sent}
use Rattle.run_base.proofs.Told.{told_is}
use Rattle.stage_check.specs.declared.judging.Verdict.{Verdict}
use Rattle.stage_check.specs.declared.judging.Verdict.TheVariants.{MayMix, Unlike, TooManyLines, SharedTag, LowPref}
use Rattle.stage_check.specs.declared.which.Stage.{Stage}
use Rattle.stage_check.specs.Verdicts.{verdict}
use Rattle.stage_jobs.specs.Betweens.{IsInTheWay, SaysOfConfigs, SaysOfTexts, SaysOfVerdict, too_many_lines, way_line}
use Rattle.stage_jobs.proofs.BetweenLaws.{at_configs, of_configs}
use Rattle.propane_run.specs.declared.command.Command.{Command}
use Rattle.propane_run.specs.declared.command.Command.TheVariants.{Between}
use Rattle.propane_run.specs.Staging.{AsksBetween, TellsTheWay, TellsTooLong, WritesStage}
use Rattle.propane_run.specs.Run.{Comes, Job}
use Rattle.propane_run.specs.Words.{names_read}

module _ (holds : Holds) (words : List (List ℕ)) (stage : Stage) where
  -- the command
  abbrev c : Command
  c = Between stage

  -- of which configurations a thing is said
  record SaidFor (what : Said) : Type 0 where
    old : PlainConfig
    new : PlainConfig
    asked : AsksBetween holds words stage old new
    says : SaysOfConfigs stage old new what

  said_for : (what : Said) → what.status ≢ BadInput → Comes holds words c what → SaidFor what
  said_for what lawful comes =
      let f = of_configs stage comes.bytes what lawful comes.says in
      let P : List (List ℕ) → Type 0 = AllHeld holds (names_read words c) in
      record {
        old = f.old;
        new = f.new;
        asked =
            record {
              asked = comes.is;
              before = f.before;
              after = f.after;
              held = subst P f.texts comes.held;
              old_spelled = f.old_spelled;
              new_spelled = f.new_spelled;
            };
        says = f.says;
      }

  module _ {S : Type 0} (taken : S → Option (List ℕ)) (before now : S) (b : List ℕ) (written : Whole taken b before now) where
    right_of : (old new : PlainConfig) → AsksBetween holds words stage old new → (v : Verdict) → SaysOfVerdict stage old new v (text b) → WritesStage holds taken words stage before now
    right_of old new asks MayMix says =
        record {
          old = old;
          new = new;
          asked = asks;
          bytes = says.bytes;
          written = rw (out_is _ _ says.said) at written;
          spelled = says.spells;
          rollouts = says.rollouts;
        }
    right_of old new asks (Unlike n) says = absurd (let s = status_is _ _ says in cc)
    right_of old new asks (TooManyLines n) says = absurd (let s = status_is _ _ says in cc)
    right_of old new asks (SharedTag t) says = absurd (let s = status_is _ _ says in cc)
    right_of old new asks (LowPref n) says = absurd (let s = status_is _ _ says in cc)

    -- what it writes is the stage between what it read
    pub right : Comes holds words c (text b) → WritesStage holds taken words stage before now
    right comes = let f = said_for (text b) (λ x. cc) comes in right_of f.old f.new f.asked (verdict f.old f.new) f.says

    fails_of : (old new : PlainConfig) → AsksBetween holds words stage old new → (v : Verdict) → verdict old new ≡ v → SaysOfVerdict stage old new v (failing b)
        → TellsTheWay holds taken words stage before now
    fails_of old new asks MayMix is says = absurd (let s = status_is _ _ says.said in cc)
    fails_of old new asks (TooManyLines n) is says = absurd (let s = status_is _ _ says in cc)
    fails_of old new asks (Unlike n) is says =
        record { old = old; new = new; asked = asks; in_the_way = subst IsInTheWay (sym is) tt; written = subst (λ l. Whole taken l before now) (out_is _ _ says ∙ ap way_line (sym is)) written }
    fails_of old new asks (SharedTag t) is says =
        record { old = old; new = new; asked = asks; in_the_way = subst IsInTheWay (sym is) tt; written = subst (λ l. Whole taken l before now) (out_is _ _ says ∙ ap way_line (sym is)) written }
    fails_of old new asks (LowPref n) is says =
        record { old = old; new = new; asked = asks; in_the_way = subst IsInTheWay (sym is) tt; written = subst (λ l. Whole taken l before now) (out_is _ _ says ∙ ap way_line (sym is)) written }

    -- and what it tells is in the way
    pub fails : Comes holds words c (failing b) → TellsTheWay holds taken words stage before now
    fails comes = let f = said_for (failing b) (λ x. cc) comes in fails_of f.old f.new f.asked (verdict f.old f.new) refl f.says

    many_of : (old new : PlainConfig) → AsksBetween holds words stage old new → (v : Verdict) → verdict old new ≡ v → SaysOfVerdict stage old new v (line Refused b)
        → TellsTooLong holds taken words stage before now
    many_of old new asks MayMix is says = absurd (let s = status_is _ _ says.said in cc)
    many_of old new asks (TooManyLines n) is says = record { old = old; new = new; asked = asks; number = n; many = is; written = rw (err_is _ _ says) at written }
    many_of old new asks (Unlike n) is says = absurd (let s = status_is _ _ says in cc)
    many_of old new asks (SharedTag t) is says = absurd (let s = status_is _ _ says in cc)
    many_of old new asks (LowPref n) is says = absurd (let s = status_is _ _ says in cc)

    -- a count that is told is too large
    pub refused : Comes holds words c (line Refused b) → TellsTooLong holds taken words stage before now
    refused comes = let f = said_for (line Refused b) (λ x. cc) comes in many_of f.old f.new f.asked (verdict f.old f.new) refl f.says

  -- ---- where the inputs are told

  module _ (old new : PlainConfig) (asks : AsksBetween holds words stage old new) {O E : Type 0} (ot : O → Option (List ℕ)) (of : O → ℕ)
      (et : E → Option (List ℕ)) (ef : E → ℕ) (out out' : O) (err err' : E) (ended : Status) where
    told : (wanted : Said) → SaidOfTold holds (names_read words c) (Job c) wanted → SaysOfConfigs stage old new wanted
    told wanted said =
        at_configs stage asks.before asks.after old new wanted asks.old_spelled asks.new_spelled
        (told_is holds (names_read words c) (SaysOfTexts stage) (asks.before ∷ asks.after ∷ []) wanted asks.held said)

    done_by : verdict old new ≡ MayMix → (Rose (of out) (of out') → ⊥) → (wanted : Said) → SaysOfConfigs stage old new wanted
        → Delivered ot of et ef wanted out out' err err' ended → ended ≡ Done
    done_by free calm wanted says sent =
        let staged = subst (λ v. SaysOfVerdict stage old new v wanted) free says in
        let is = staged.said in
        text_sent ot of et ef out out' err err' ended staged.bytes calm (rw is at sent)

    pub staged_where : verdict old new ≡ MayMix → (Rose (of out) (of out') → ⊥) → Gives ot of et ef out out' err err' ended (SaidOfTold holds (names_read words c) (Job c))
        → (ended ≡ NoMemory) ⊎ (ended ≡ Done)
    staged_where free calm (inl m) = inl m
    staged_where free calm (inr w) = inr (done_by free calm w.0 (told w.0 w.1) w.2)

    line_by : (v : Verdict) → IsInTheWay v → (wanted : Said) → SaysOfVerdict stage old new v wanted → wanted ≡ failing (way_line v)
    line_by (Unlike n) way wanted says = says
    line_by (SharedTag t) way wanted says = says
    line_by (LowPref n) way wanted says = says
    line_by MayMix way wanted says = absurd way
    line_by (TooManyLines n) way wanted says = absurd way

    pub told_where : IsInTheWay (verdict old new) → (Rose (of out) (of out') → ⊥) → Gives ot of et ef out out' err err' ended (SaidOfTold holds (names_read words c) (Job c))
        → (ended ≡ NoMemory) ⊎ (ended ≡ CheckFails)
    told_where way calm (inl m) = inl m
    told_where way calm (inr w) =
        let is = line_by (verdict old new) way w.0 (told w.0 w.1) in
        inr (failing_sent ot of et ef out out' err err' ended (way_line (verdict old new)) calm (subst (λ x. Delivered ot of et ef x out out' err err' ended) is w.2))

    pub too_many_where : (n : ℕ) → verdict old new ≡ TooManyLines n → (Rose (ef err) (ef err') → ⊥) → Gives ot of et ef out out' err err' ended (SaidOfTold holds (names_read words c) (Job c))
        → (ended ≡ NoMemory) ⊎ (ended ≡ Refused) × Whole et (too_many_lines n) err err' × (out' ≡ out)
    too_many_where n many calm (inl m) = inl m
    too_many_where n many calm (inr w) =
        let is = subst (λ v. SaysOfVerdict stage old new v w.0) many (told w.0 w.1) in
        inr (line_sent ot of et ef out out' err err' ended Refused (too_many_lines n) calm (subst (λ x. Delivered ot of et ef x out out' err err' ended) is w.2))
