-- What a run of `maps` has written: the maps of the configuration that it read, or that there are too many lines.
use Rattle.std.proofs.Common.{◌≡◌, ◌≢◌, ◌⊎◌, ℕ, ◌<◌, ◌≤◌, List, [], ◌∷◌, Option, inl, inr, subst, arith, min}
use Rattle.input_output.specs.Outside.{Rose}
use Rattle.config_base.specs.Configs.{PlainConfig}
use Rattle.run_base.specs.declared.outcome.Status.{Status}
use Rattle.run_base.specs.declared.outcome.Status.TheVariants.{BadInput, Done, NoMemory, Refused}
use Rattle.run_base.specs.Reading.{Holds, AllHeld, SaidOfTold}
use Rattle.run_base.specs.Said.{Said, text, line, Whole, Delivered}
use Rattle.run_base.proofs.Jobs.{err_is, out_is, status_is}
use Rattle.run_base.proofs.Sent.{Gives, line_sent, text_sent}
use Rattle.run_base.proofs.Told.{told_is}
use Rattle.route_maps.specs.OfConfig.{maps_of}
use Rattle.route_maps.proofs.Means.{MeansAs-maps_of}
use Rattle.map_maker.specs.Counts.{line_count}
use Rattle.map_maker.specs.Earlier.{top}
use Rattle.route_map_text.specs.MapsLines.{maps_text}
use Rattle.judging_jobs.specs.ConfigMaps.{SaysOfTexts}
use Rattle.judging_jobs.specs.MapsJobs.{SaysOfConfig}
use Rattle.judging_jobs.specs.MapsSaid.{too_many_lines}
use Rattle.judging_jobs.proofs.ConfigMapLaws.{at_config_text, of_config_text}
use Rattle.propane_run.specs.declared.command.Command.{Command}
use Rattle.propane_run.specs.declared.command.Command.TheVariants.{Maps}
use Rattle.propane_run.specs.Mapping.{AsksOfConfig, TellsTooMany, WritesMaps}
use Rattle.propane_run.specs.Run.{Comes, Job}
use Rattle.propane_run.specs.Words.{names_read}

module _ (holds : Holds) (words : List (List ℕ)) where
  -- the command
  abbrev c : Command
  c = Maps

  -- of which configuration a thing is said
  record SaidFor (what : Said) : Type 0 where
    config : PlainConfig
    asked : AsksOfConfig holds words config
    says : SaysOfConfig config what

  said_for : (what : Said) → what.status ≢ BadInput → Comes holds words c what → SaidFor what
  said_for what lawful comes =
      let f = of_config_text comes.bytes what lawful comes.says in
      let P : List (List ℕ) → Type 0 = AllHeld holds (names_read words c) in
      record { config = f.config; asked = record { asked = comes.is; config_text = f.bytes; held = subst P f.texts comes.held; spelled = f.config_spelled }; says = f.says }

  module _ {S : Type 0} (taken : S → Option (List ℕ)) (before now : S) (b : List ℕ) (written : Whole taken b before now) where
    right_of : (config : PlainConfig) → AsksOfConfig holds words config → SaysOfConfig config (text b) → WritesMaps holds taken words before now
    right_of config asks (inl h) =
        record { config = config; asked = asks; bytes = b; written = written; spelled = record { lawful = h.1; written = out_is _ _ h.2 }; means = MeansAs-maps_of config }
    right_of config asks (inr many) = absurd (let s = status_is _ _ many.said in cc)

    -- what it writes are the maps of what it read
    pub right : Comes holds words c (text b) → WritesMaps holds taken words before now
    right comes = let f = said_for (text b) (λ x. cc) comes in right_of f.config f.asked f.says

    many_of : (config : PlainConfig) → AsksOfConfig holds words config → SaysOfConfig config (line Refused b) → TellsTooMany holds taken words c before now
    many_of config asks (inl h) = absurd (let s = status_is _ _ h.2 in cc)
    many_of config asks (inr many) = record { config = config; asked = asks; many = many.many; written = rw (err_is _ _ many.said) at written }

    -- a count that is told is too large
    pub refused : Comes holds words c (line Refused b) → TellsTooMany holds taken words c before now
    refused comes = let f = said_for (line Refused b) (λ x. cc) comes in many_of f.config f.asked f.says

  -- ---- where the inputs are told

  module _ (config : PlainConfig) (asks : AsksOfConfig holds words config) {O E : Type 0} (ot : O → Option (List ℕ)) (of : O → ℕ)
      (et : E → Option (List ℕ)) (ef : E → ℕ) (out out' : O) (err err' : E) (ended : Status) where
    told : (wanted : Said) → SaidOfTold holds (names_read words c) (Job c) wanted → SaysOfConfig config wanted
    told wanted said =
        at_config_text asks.config_text config wanted asks.spelled (told_is holds (names_read words c) SaysOfTexts (asks.config_text ∷ []) wanted asks.held said)

    done_by : line_count (maps_of config) ≤ 1000000 → (Rose (of out) (of out') → ⊥) → (wanted : Said) → SaysOfConfig config wanted → Delivered ot of et ef wanted out out' err err' ended → ended ≡ Done
    done_by few calm wanted (inl h) sent = let is = h.2 in text_sent ot of et ef out out' err err' ended (maps_text (maps_of config)) calm (rw is at sent)
    done_by few calm wanted (inr many) sent = absurd (omega (arith, few, many.many))

    pub mapped_where : line_count (maps_of config) ≤ 1000000 → (Rose (of out) (of out') → ⊥) → Gives ot of et ef out out' err err' ended (SaidOfTold holds (names_read words c) (Job c))
        → (ended ≡ NoMemory) ⊎ (ended ≡ Done)
    mapped_where few calm (inl m) = inl m
    mapped_where few calm (inr w) = inr (done_by few calm w.0 (told w.0 w.1) w.2)

    many_by : 1000000 < line_count (maps_of config) → (Rose (ef err) (ef err') → ⊥) → (wanted : Said) → SaysOfConfig config wanted
        → Delivered ot of et ef wanted out out' err err' ended → (ended ≡ Refused) × Whole et (too_many_lines (min (line_count (maps_of config)) top)) err err' × (out' ≡ out)
    many_by many calm wanted (inl h) sent = absurd (omega (arith, many, h.0))
    many_by many calm wanted (inr h) sent =
        let is = h.said in
        line_sent ot of et ef out out' err err' ended Refused (too_many_lines (min (line_count (maps_of config)) top)) calm (rw is at sent)

    pub too_many_where : 1000000 < line_count (maps_of config) → (Rose (ef err) (ef err') → ⊥) → Gives ot of et ef out out' err err' ended (SaidOfTold holds (names_read words c) (Job c))
        → (ended ≡ NoMemory) ⊎ (ended ≡ Refused) × Whole et (too_many_lines (min (line_count (maps_of config)) top)) err err' × (out' ≡ out)
    too_many_where many calm (inl m) = inl m
    too_many_where many calm (inr w) = inr (many_by many calm w.0 (told w.0 w.1) w.2)
