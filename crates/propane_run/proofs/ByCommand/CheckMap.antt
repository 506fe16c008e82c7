-- What a run of `checkmap` has written: that maps are those of the configuration, or where they differ.
use Rattle.std.proofs.Common.{◌≡◌, ◌≢◌, ◌⊎◌, ℕ, ◌<◌, ◌≤◌, List, [], ◌∷◌, Option, inl, inr, sym, subst, arith, min}
use Rattle.input_output.specs.Outside.{Rose}
use Rattle.config_base.specs.Configs.{PlainConfig}
use Rattle.run_base.specs.declared.outcome.Status.{Status}
use Rattle.run_base.specs.declared.outcome.Status.TheVariants.{BadInput, CheckFails, Done, NoMemory, Refused}
use Rattle.run_base.specs.Reading.{Holds, AllHeld, SaidOfTold}
use Rattle.run_base.specs.Said.{Said, text, line, failing, Whole, Delivered}
use Rattle.run_base.proofs.Jobs.{err_is, out_is, status_is}
use Rattle.run_base.proofs.Sent.{Gives, failing_sent, line_sent, text_sent}
use Rattle.run_base.proofs.Told.{told_is}
use Rattle.route_maps.specs.Maps.{PlainMaps}
use Rattle.route_maps.specs.OfConfig.{maps_of, MeansAs}
use Rattle.route_maps.proofs.Means.{MeansAs-maps_of}
use Rattle.map_maker.specs.Counts.{line_count}
use Rattle.map_maker.specs.Earlier.{top}
use Rattle.route_map_text.specs.MapsLines.{maps_text}
use Rattle.text_parts.specs.Difference.{first_difference}
use Rattle.judging_jobs.specs.MapsJobs.{SaysOfMaps, SaysOfTexts}
use Rattle.judging_jobs.specs.MapsSaid.{differs_line, same_line, too_many_lines}
use Rattle.judging_jobs.proofs.CheckMapLaws.{at_maps, of_maps}
use Rattle.propane_run.specs.declared.command.Command.{Command}
use Rattle.propane_run.specs.declared.command.Command.TheVariants.{CheckMap}
use Rattle.propane_run.specs.Mapping.{AsksOfMaps, MapsAgree, TellsDifference, TellsTooMany}
use Rattle.propane_run.specs.Run.{Comes, Job}
use Rattle.propane_run.specs.Words.{names_read}

module _ (holds : Holds) (words : List (List ℕ)) where
  -- the command
  abbrev c : Command
  c = CheckMap

  -- of which configuration and maps a thing is said
  record SaidFor (what : Said) : Type 0 where
    config : PlainConfig
    maps : PlainMaps
    asked : AsksOfMaps holds words config maps
    says : SaysOfMaps config maps what

  said_for : (what : Said) → what.status ≢ BadInput → Comes holds words c what → SaidFor what
  said_for what lawful comes =
      let f = of_maps comes.bytes what lawful comes.says in
      let P : List (List ℕ) → Type 0 = AllHeld holds (names_read words c) in
      record {
        config = f.config;
        maps = f.maps;
        asked =
            record {
              asked = comes.is;
              config_text = f.config_text;
              maps_bytes = f.maps_bytes;
              held = subst P f.texts
                  comes.held;
              config_spelled = f.config_spelled;
              maps_spelled = f.maps_spelled;
            };
        says = f.says;
      }

  module _ {S : Type 0} (taken : S → Option (List ℕ)) (before now : S) (b : List ℕ) (written : Whole taken b before now) where
    agree_of : (config : PlainConfig) (maps : PlainMaps) → AsksOfMaps holds words config maps → SaysOfMaps config maps (text b) → MapsAgree holds taken words before now
    agree_of config maps asks (inl (few, inl (same, is))) =
        record { config = config; maps = maps; asked = asks; written = rw (out_is _ _ is) at written; same = same; means = subst (MeansAs config) (sym same) (MeansAs-maps_of config) }
    agree_of config maps asks (inl (few, inr (apart, is))) = absurd (let s = status_is _ _ is in cc)
    agree_of config maps asks (inr many) = absurd (let s = status_is _ _ many.said in cc)

    -- where it says that the maps are those of the configuration, they are
    pub right : Comes holds words c (text b) → MapsAgree holds taken words before now
    right comes = let f = said_for (text b) (λ x. cc) comes in agree_of f.config f.maps f.asked f.says

    differ_of : (config : PlainConfig) (maps : PlainMaps) → AsksOfMaps holds words config maps → SaysOfMaps config maps (failing b) → TellsDifference holds taken words before now
    differ_of config maps asks (inl (few, inl (same, is))) = absurd (let s = status_is _ _ is in cc)
    differ_of config maps asks (inl (few, inr (apart, is))) = record { config = config; maps = maps; asked = asks; apart = apart; written = rw (out_is _ _ is) at written }
    differ_of config maps asks (inr many) = absurd (let s = status_is _ _ many.said in cc)

    -- and where it tells a difference, they differ
    pub fails : Comes holds words c (failing b) → TellsDifference holds taken words before now
    fails comes = let f = said_for (failing b) (λ x. cc) comes in differ_of f.config f.maps f.asked f.says

    many_of : (config : PlainConfig) (maps : PlainMaps) → AsksOfMaps holds words config maps → SaysOfMaps config maps (line Refused b) → TellsTooMany holds taken words c before now
    many_of config maps asks (inl (few, inl (same, is))) = absurd (let s = status_is _ _ is in cc)
    many_of config maps asks (inl (few, inr (apart, is))) = absurd (let s = status_is _ _ is in cc)
    many_of config maps asks (inr many) = record { config = config; asked = (maps, asks); many = many.many; written = rw (err_is _ _ many.said) at written }

    -- a count that is told is too large
    pub refused : Comes holds words c (line Refused b) → TellsTooMany holds taken words c before now
    refused comes = let f = said_for (line Refused b) (λ x. cc) comes in many_of f.config f.maps f.asked f.says

  -- ---- where the inputs are told

  module _ (config : PlainConfig) (maps : PlainMaps) (asks : AsksOfMaps holds words config maps) {O E : Type 0} (ot : O → Option (List ℕ))
      (of : O → ℕ) (et : E → Option (List ℕ)) (ef : E → ℕ) (out out' : O) (err err' : E) (ended : Status) where
    told : (wanted : Said) → SaidOfTold holds (names_read words c) (Job c) wanted → SaysOfMaps config maps wanted
    told wanted said =
        at_maps asks.config_text asks.maps_bytes config maps wanted asks.config_spelled asks.maps_spelled
        (told_is holds (names_read words c) SaysOfTexts (asks.config_text ∷ asks.maps_bytes ∷ []) wanted asks.held said)

    module _ (few : line_count (maps_of config) ≤ 1000000) (calm : Rose (of out) (of out') → ⊥) where
      done_by : maps ≡ maps_of config → (wanted : Said) → SaysOfMaps config maps wanted → Delivered ot of et ef wanted out out' err err' ended → ended ≡ Done
      done_by same wanted (inl (also, inl (equal, is))) sent = text_sent ot of et ef out out' err err' ended same_line calm (rw is at sent)
      done_by same wanted (inl (also, inr (apart, is))) sent = absurd (apart same)
      done_by same wanted (inr many) sent = absurd (omega (arith, few, many.many))

      pub same_where : maps ≡ maps_of config → Gives ot of et ef out out' err err' ended (SaidOfTold holds (names_read words c) (Job c)) → (ended ≡ NoMemory) ⊎ (ended ≡ Done)
      same_where same (inl m) = inl m
      same_where same (inr w) = inr (done_by same w.0 (told w.0 w.1) w.2)

      fails_by : maps ≢ maps_of config → (wanted : Said) → SaysOfMaps config maps wanted → Delivered ot of et ef wanted out out' err err' ended → ended ≡ CheckFails
      fails_by apart wanted (inl (also, inl (same, is))) sent = absurd (apart same)
      fails_by apart wanted (inl (also, inr (other, is))) sent =
          failing_sent ot of et ef out out' err err' ended (differs_line (first_difference (maps_text maps) (maps_text (maps_of config)))) calm (rw is at sent)
      fails_by apart wanted (inr many) sent = absurd (omega (arith, few, many.many))

      pub differ_where : maps ≢ maps_of config → Gives ot of et ef out out' err err' ended (SaidOfTold holds (names_read words c) (Job c)) → (ended ≡ NoMemory) ⊎ (ended ≡ CheckFails)
      differ_where apart (inl m) = inl m
      differ_where apart (inr w) = inr (fails_by apart w.0 (told w.0 w.1) w.2)

    many_by : 1000000 < line_count (maps_of config) → (Rose (ef err) (ef err') → ⊥) → (wanted : Said) → SaysOfMaps config maps wanted
        → Delivered ot of et ef wanted out out' err err' ended → (ended ≡ Refused) × Whole et (too_many_lines (min (line_count (maps_of config)) top)) err err' × (out' ≡ out)
    many_by many calm wanted (inl h) sent = absurd (omega (arith, many, h.0))
    many_by many calm wanted (inr h) sent =
        let is = h.said in
        line_sent ot of et ef out out' err err' ended Refused (too_many_lines (min (line_count (maps_of config)) top)) calm (rw is at sent)

    pub too_many_where : 1000000 < line_count (maps_of config) → (Rose (ef err) (ef err') → ⊥) → Gives ot of et ef out out' err err' ended (SaidOfTold holds (names_read words c) (Job c))
        → (ended ≡ NoMemory) ⊎ (ended ≡ Refused) × Whole et (too_many_lines (min (line_count (maps_of config)) top)) err err' × (out' ≡ out)
    too_many_where many calm (inl m) = inl m
    too_many_where many calm (inr w) = inr (many_by many calm w.0 (told w.0 w.1) w.2)
