-- The maps of a configuration, and what they are to mean.
use Rattle.std.specs.Prelude.{◌≡◌, ◌↔◌, ℕ, IsTrue, Some, option_and_then, Bool, true, false, List, [], ◌∷◌, ◌++◌, map}
use Rattle.std.specs.List.{list_any, filter}
use Rattle.net_base.specs.declared.numbers.Tag.{Tag}
use Rattle.net_base.specs.Network.{PlainNet}
use Rattle.net_base.specs.Prefixes.{PlainPrefix, PlainPattern, IsPrefix}
use Rattle.config_base.specs.Configs.{PlainConfig}
use Rattle.config_base.specs.Lines.{class_of, export_of, import_of, own_tag}
use Rattle.route_maps.specs.declared.maps.ListLine.{ListLine}
use Rattle.route_maps.specs.Maps.{PlainMaps, list_permits, map_in, map_out, map_own}
use Rattle.route_maps.specs.Overlaps.{overlap}

abbrev pub line : Bool → PlainPattern → ListLine
line permit pattern = record { permit = permit; pattern = pattern }

-- some pattern of the class overlaps this one
abbrev pub meets_some : List PlainPattern → PlainPattern → Bool
meets_some patterns q = list_any (λ p. overlap q p) patterns

-- `deny` for each earlier pattern that overlaps one of the class, then `permit` for each of the class
abbrev pub list_for : List PlainPattern → List PlainPattern → List ListLine
list_for earlier patterns = map (line false) (filter (meets_some patterns) earlier) ++ map (line true) patterns

-- one list for each class, where these patterns are those of the classes before
abbrev pub lists_from : List PlainPattern → List (List PlainPattern) → List (List ListLine)
lists_from earlier [] = []
lists_from earlier (patterns ∷ rest) = list_for earlier patterns ∷ lists_from (earlier ++ patterns) rest

-- the routers are those of the configuration, as they stand
abbrev pub maps_of : PlainConfig → PlainMaps
maps_of config = record { lists = lists_from [] config.classes; routers = config.routers }

-- a list permits the prefixes of the class with its number, and entries make of each route what the configuration's lines make of it
pub record MeansAs (config : PlainConfig) (maps : PlainMaps) : Type 0 where
  pub lists : (list : ℕ) (p : PlainPrefix) → IsPrefix p → IsTrue (list_permits maps list p) ↔ (class_of config p ≡ Some list)
  pub imports : (net : PlainNet) (p : PlainPrefix) (at from : ℕ) (path : List ℕ) (tag : Tag) → IsPrefix p
      → map_in net maps p at from path tag ≡ option_and_then (λ class. import_of net config class at from path tag) (class_of config p)
  pub exports : (net : PlainNet) (p : PlainPrefix) (from to : ℕ) (tag : Tag) → IsPrefix p
      → map_out net maps p from to tag ≡ option_and_then (λ class. export_of net config class from to tag) (class_of config p)
  pub own : (net : PlainNet) (p : PlainPrefix) (r : ℕ) → IsPrefix p → map_own net maps p r ≡ own_tag net config p r
