-- Which maps a text spells.
use Rattle.std.specs.Prelude.{◌≡◌, ℕ, List}
use Rattle.std.specs.List.{AllByRecursion}
use Rattle.net_base.specs.Prefixes.{IsPattern}
use Rattle.config_text.specs.Spelled.{HasLawfulParts}
use Rattle.route_maps.specs.declared.maps.ListLine.{ListLine}
use Rattle.route_maps.specs.Maps.{PlainMaps, IsMaps}
use Rattle.route_map_text.specs.MapsLines.{maps_text}

abbrev pub HasPattern : ListLine → Type 0
HasPattern l = IsPattern l.pattern

abbrev pub HavePatterns : List ListLine → Type 0
HavePatterns lines = AllByRecursion HasPattern lines

-- They keep the rules of maps, and their parts are what they are said to be: names, prefixes and patterns.
pub record IsLawful (m : PlainMaps) : Type 0 where
  pub rules : IsMaps m
  pub patterns : AllByRecursion HavePatterns m.lists
  pub routers : AllByRecursion HasLawfulParts m.routers

-- the text is that of these lawful maps
pub record Spells (bytes : List ℕ) (m : PlainMaps) : Type 0 where
  pub lawful : IsLawful m
  pub written : bytes ≡ maps_text m
