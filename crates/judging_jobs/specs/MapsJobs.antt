-- What `routemap` and `checkmap` say.
use Rattle.std.specs.Prelude.{◌≡◌, ◌≢◌, ◌⊎◌, ℕ, ◌≤◌, ◌<◌, List, [], ◌∷◌, min, Result, Ok, Err}
use Rattle.net_base.specs.Network.{PlainNet}
use Rattle.policy_base.specs.Policies.{PlainPolicy}
use Rattle.config_base.specs.Configs.{PlainConfig}
use Rattle.config_reader.specs.Text.{spelled as config_spelled}
use Rattle.evidence_base.specs.Made.{PlainCaseEvidence}
use Rattle.compile_jobs.specs.Compiled.{IsCompiled}
use Rattle.compile_jobs.specs.Compiling.{SaysRefusal}
use Rattle.input_texts.specs.FaultLines.{config_line, maps_line}
use Rattle.input_texts.specs.Texts.{OfRead}
use Rattle.run_base.specs.Said.{Said, text, line, failing, stop_said, no_memory}
use Rattle.run_base.specs.declared.outcome.Status.TheVariants.{Refused}
use Rattle.run_base.specs.declared.outcome.Stop.{Stop}
use Rattle.route_maps.specs.Maps.{PlainMaps}
use Rattle.route_maps.specs.OfConfig.{maps_of}
use Rattle.map_maker.specs.Counts.{line_count}
use Rattle.map_maker.specs.Earlier.{top}
use Rattle.map_maker.specs.declared.lists.TheConstants.{MAX_LINES}
use Rattle.route_map_text.specs.MapsLines.{maps_text}
use Rattle.route_map_text.specs.MapsSpelled.{IsLawful}
use Rattle.map_reader.specs.MapsRead.{spelled}
use Rattle.text_parts.specs.Difference.{first_difference}
use Rattle.judging_jobs.specs.MapsSaid.{too_many_lines, same_line, differs_line}

-- The maps of the configuration would have more lines than a text of maps may have, and the line of this refusal is said.
pub record SaysTooMany (config : PlainConfig) (what : Said) : Type 0 where
  pub many : MAX_LINES < line_count (maps_of config)
  pub said : what ≡ line Refused (too_many_lines (min (line_count (maps_of config)) top))

-- The maps of a configuration, or why the run stops.
abbrev pub AreMapsOr : PlainConfig → Result PlainMaps Stop → Type 0
AreMapsOr config (Ok maps) = (maps ≡ maps_of config) × (line_count (maps_of config) ≤ MAX_LINES)
AreMapsOr config (Err s) = (stop_said s ≡ no_memory) ⊎ SaysTooMany config (stop_said s)

-- ---- routemap

-- the text of a configuration's maps, or that they have too many lines
abbrev pub SaysOfConfig : PlainConfig → Said → Type 0
SaysOfConfig config what = ((line_count (maps_of config) ≤ MAX_LINES) × IsLawful (maps_of config) × (what ≡ text (maps_text (maps_of config)))) ⊎ SaysTooMany config what

-- the same of a configuration that is compiled from the policy, or the line of a refusal that applies to it
abbrev pub SaysOfPolicy : PlainNet → PlainPolicy → Said → Type 0
SaysOfPolicy net policy what =
    ((config : PlainConfig) × (evidence : List PlainCaseEvidence) × IsCompiled net policy config evidence × SaysOfConfig config what)
    ⊎ SaysRefusal net policy what

-- ---- checkmap

-- two texts are the same, or the first line in which they differ is told
abbrev pub SaysOfBoth : List ℕ → List ℕ → Said → Type 0
SaysOfBoth bytes wanted what =
    ((bytes ≡ wanted) × (what ≡ text same_line)) ⊎ ((bytes ≢ wanted) × (what ≡ failing (differs_line (first_difference bytes wanted))))

-- a text of maps, beside that of the maps of the configuration
abbrev pub SaysOfBytes : PlainConfig → List ℕ → Said → Type 0
SaysOfBytes config bytes what =
    ((line_count (maps_of config) ≤ MAX_LINES) × IsLawful (maps_of config) × SaysOfBoth bytes (maps_text (maps_of config)) what) ⊎ SaysTooMany config what

-- maps are those of the configuration, or the first line is told in which the two printed texts differ
abbrev pub SaysOfMaps : PlainConfig → PlainMaps → Said → Type 0
SaysOfMaps config maps what =
    ((line_count (maps_of config) ≤ MAX_LINES)
    × (((maps ≡ maps_of config) × (what ≡ text same_line))
    ⊎ ((maps ≢ maps_of config) × (what ≡ failing (differs_line (first_difference (maps_text maps) (maps_text (maps_of config))))))))
    ⊎ SaysTooMany config what

-- The configuration is read, and then the maps.
abbrev pub SaysOfPair : List ℕ → List ℕ → Said → Type 0
SaysOfPair config_text maps_bytes what = OfRead config_line (config_spelled config_text) (λ config. OfRead maps_line (spelled maps_bytes) (SaysOfMaps config)) what

-- where these are the two texts that were read
abbrev pub SaysOfTexts : List (List ℕ) → Said → Type 0
SaysOfTexts (config_text ∷ maps_bytes ∷ []) what = SaysOfPair config_text maps_bytes what
SaysOfTexts _ what = ⊥
