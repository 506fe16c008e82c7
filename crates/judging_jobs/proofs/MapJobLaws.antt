-- What follows from what was read and made.
use Rattle.std.proofs.Common.{◌≡◌, ℕ, ◌<◌, ◌≤◌, List, length, Ok, inl, inr, sym, ◌∙◌, ap, subst}
use Rattle.net_base.proofs.StepLemmas.{ok_same}
use Rattle.config_base.specs.Configs.{PlainConfig}
use Rattle.run_base.specs.Said.{Said, text, failing}
use Rattle.route_maps.specs.Maps.{PlainMaps}
use Rattle.route_maps.specs.OfConfig.{maps_of}
use Rattle.map_maker.specs.Counts.{line_count}
use Rattle.route_map_text.specs.MapsLines.{maps_text}
use Rattle.route_map_text.specs.MapsSpelled.{IsLawful, Spells}
use Rattle.map_reader.specs.MapsRead.{spelled}
use Rattle.map_reader.proofs.MapTaken.{spelled_is_read}
use Rattle.text_parts.specs.Difference.{first_difference}
use Rattle.judging_jobs.specs.MapsSaid.{differs_line}
use Rattle.judging_jobs.specs.MapsJobs.{SaysOfConfig, SaysOfBoth, SaysOfBytes, SaysOfMaps}

pub config_said : (config : PlainConfig) (maps : PlainMaps) (bytes : List ℕ) → maps ≡ maps_of config → line_count (maps_of config) ≤ 1000000 → Spells bytes maps → SaysOfConfig config (text bytes)
config_said config maps bytes same few s = inl (few, subst IsLawful same s.lawful, ap text (s.written ∙ ap maps_text same))

-- what is said of a text of maps is said of the maps that it spells
pub maps_said : (config : PlainConfig) (m : PlainMaps) (bytes : List ℕ) (what : Said) → length bytes < 4294967295 → spelled bytes ≡ Ok m
    → Spells bytes m → SaysOfBytes config bytes what → SaysOfMaps config m what
maps_said config m bytes what short h s (inr many) = inr many
maps_said config m bytes what short h s (inl (few, lawful, inl (same, w))) =
    let other : Spells bytes (maps_of config) = record { lawful = lawful; written = same } in
    inl (few, inl (ok_same m (maps_of config) (sym h ∙ spelled_is_read bytes (maps_of config) short other), w))
maps_said config m bytes what short h s (inl (few, lawful, inr (apart, w))) =
    inl (few, inr (λ e. apart (s.written ∙ ap maps_text e), w ∙ ap (λ t. failing (differs_line (first_difference t (maps_text (maps_of config))))) s.written))

-- what is said beside the wanted text
pub bytes_said : (config : PlainConfig) (maps : PlainMaps) (bytes wanted : List ℕ) (what : Said) → maps ≡ maps_of config
    → line_count (maps_of config) ≤ 1000000 → Spells wanted maps → SaysOfBoth bytes wanted what → SaysOfBytes config bytes what
bytes_said config maps bytes wanted what same few s both =
    let lawful : IsLawful (maps_of config) = subst IsLawful same s.lawful in
    let is : wanted ≡ maps_text (maps_of config) = s.written ∙ ap maps_text same in
    inl (few, lawful, subst (λ t. SaysOfBoth bytes t what) is both)
