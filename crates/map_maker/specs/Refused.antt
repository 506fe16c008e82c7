-- Which configurations have no maps.
use Rattle.std.specs.Prelude.{◌≡◌, ◌<◌, min, ⊤}
use Rattle.config_base.specs.Configs.{PlainConfig}
use Rattle.route_maps.specs.OfConfig.{maps_of}
use Rattle.map_maker.specs.Counts.{line_count}
use Rattle.map_maker.specs.Earlier.{top}
use Rattle.map_maker.specs.declared.lists.TheConstants.{MAX_LINES}
use Rattle.map_maker.specs.declared.refusal.MapsRefusal.{MapsRefusal}
use Rattle.map_maker.specs.declared.refusal.MapsRefusal.TheVariants.{TooManyLines, NoMemory}

-- the text of its maps would have more than 1,000,000 lines, and the number tells how many, kept at the greatest of 64 bits
abbrev pub IsRefused : PlainConfig → MapsRefusal → Type 0
IsRefused config (TooManyLines n) = (MAX_LINES < line_count (maps_of config)) × (n ≡ min (line_count (maps_of config)) top)
IsRefused config NoMemory = ⊤
