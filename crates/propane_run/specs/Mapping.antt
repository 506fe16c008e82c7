-- What a run of `routemap`, of `checkmap` or of `maps` has written, and for what.
use Rattle.std.specs.Prelude.{◌≡◌, ◌≢◌, ℕ, ◌<◌, List, [], ◌∷◌, Option, Ok, Some, min}
use Rattle.net_base.specs.Network.{PlainNet}
use Rattle.policy_base.specs.Policies.{PlainPolicy}
use Rattle.config_base.specs.Configs.{PlainConfig}
use Rattle.config_reader.specs.Text.{spelled as config_spelled_by}
use Rattle.evidence_base.specs.Made.{PlainCaseEvidence}
use Rattle.compile_jobs.specs.Compiled.{IsCompiled}
use Rattle.route_maps.specs.Maps.{PlainMaps}
use Rattle.route_maps.specs.OfConfig.{maps_of, MeansAs}
use Rattle.map_maker.specs.Counts.{line_count}
use Rattle.map_maker.specs.Earlier.{top}
use Rattle.map_maker.specs.declared.lists.TheConstants.{MAX_LINES}
use Rattle.route_map_text.specs.MapsLines.{maps_text}
use Rattle.route_map_text.specs.MapsSpelled.{Spells}
use Rattle.map_reader.specs.MapsRead.{spelled as maps_spelled_by}
use Rattle.text_parts.specs.Difference.{first_difference}
use Rattle.judging_jobs.specs.MapsSaid.{differs_line, same_line, too_many_lines}
use Rattle.run_base.specs.Reading.{Holds, AllHeld}
use Rattle.run_base.specs.Said.{Whole}
use Rattle.propane_run.specs.declared.command.Command.{Command}
use Rattle.propane_run.specs.declared.command.Command.TheVariants.{RouteMap, CheckMap, Maps}
use Rattle.propane_run.specs.Asked.{AsksFor}
use Rattle.propane_run.specs.Compilation.{Compilation}
use Rattle.propane_run.specs.Words.{names_read, words_are}

-- The words are `checkmap`, and the bytes of the two names that it reads spell this configuration and these maps.
pub record AsksOfMaps (holds : Holds) (words : List (List ℕ)) (config : PlainConfig) (maps : PlainMaps) : Type 0 where
  pub asked : words_are words ≡ Some CheckMap
  pub config_text : List ℕ
  pub maps_bytes : List ℕ
  pub held : AllHeld holds (names_read words CheckMap) (config_text ∷ maps_bytes ∷ [])
  pub config_spelled : config_spelled_by config_text ≡ Ok config
  pub maps_spelled : maps_spelled_by maps_bytes ≡ Ok maps

-- The words are `maps`, and the bytes of the one name that it reads spell this configuration.
pub record AsksOfConfig (holds : Holds) (words : List (List ℕ)) (config : PlainConfig) : Type 0 where
  pub asked : words_are words ≡ Some Maps
  pub config_text : List ℕ
  pub held : AllHeld holds (names_read words Maps) (config_text ∷ [])
  pub spelled : config_spelled_by config_text ≡ Ok config

-- The configuration of which the command makes maps: of `routemap` that which is compiled from the policy that its inputs spell, and of
-- `checkmap` and `maps` that which they spell.
abbrev pub AsksMapsOf : Holds → List (List ℕ) → Command → PlainConfig → Type 0
AsksMapsOf holds words RouteMap config =
    (net : PlainNet) × (policy : PlainPolicy) × (evidence : List PlainCaseEvidence) × AsksFor holds words RouteMap net policy × IsCompiled net policy config evidence
AsksMapsOf holds words CheckMap config = (maps : PlainMaps) × AsksOfMaps holds words config maps
AsksMapsOf holds words Maps config = AsksOfConfig holds words config
AsksMapsOf holds words _ config = ⊥

-- `out` grew by exactly the text of the maps of the configuration that is compiled from the policy that was asked for. They mean what
-- its lines mean, and it keeps the policy in the network.
pub record MapsRight {O : Type 0} (holds : Holds) (taken : O → Option (List ℕ)) (words : List (List ℕ)) (out out' : O) : Type 0 where
  pub net : PlainNet
  pub policy : PlainPolicy
  pub asked : AsksFor holds words RouteMap net policy
  pub made : Compilation net policy
  pub bytes : List ℕ
  pub written : Whole taken bytes out out'
  pub spelled : Spells bytes (maps_of made.config)
  pub means : MeansAs made.config (maps_of made.config)

-- `out` grew by exactly the text of the maps of the configuration that was asked of. They mean what its lines mean.
pub record WritesMaps {O : Type 0} (holds : Holds) (taken : O → Option (List ℕ)) (words : List (List ℕ)) (out out' : O) : Type 0 where
  pub config : PlainConfig
  pub asked : AsksOfConfig holds words config
  pub bytes : List ℕ
  pub written : Whole taken bytes out out'
  pub spelled : Spells bytes (maps_of config)
  pub means : MeansAs config (maps_of config)

-- `out` grew by exactly the line `same`, and the maps that were asked of are those of the configuration. So they mean what its lines mean.
pub record MapsAgree {O : Type 0} (holds : Holds) (taken : O → Option (List ℕ)) (words : List (List ℕ)) (out out' : O) : Type 0 where
  pub config : PlainConfig
  pub maps : PlainMaps
  pub asked : AsksOfMaps holds words config maps
  pub written : Whole taken same_line out out'
  pub same : maps ≡ maps_of config
  pub means : MeansAs config maps

-- `out` grew by exactly the line of the first difference between the text of the maps that were asked of and that of the maps of the
-- configuration, which are others.
pub record TellsDifference {O : Type 0} (holds : Holds) (taken : O → Option (List ℕ)) (words : List (List ℕ)) (out out' : O) : Type 0 where
  pub config : PlainConfig
  pub maps : PlainMaps
  pub asked : AsksOfMaps holds words config maps
  pub apart : maps ≢ maps_of config
  pub written : Whole taken (differs_line (first_difference (maps_text maps) (maps_text (maps_of config)))) out out'

-- `err` grew by exactly the line of how many lines the text of the maps would have, which are too many.
pub record TellsTooMany {E : Type 0} (holds : Holds) (taken : E → Option (List ℕ)) (words : List (List ℕ)) (c : Command) (err err' : E) : Type 0 where
  pub config : PlainConfig
  pub asked : AsksMapsOf holds words c config
  pub many : MAX_LINES < line_count (maps_of config)
  pub written : Whole taken (too_many_lines (min (line_count (maps_of config)) top)) err err'
