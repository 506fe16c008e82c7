-- The lines of route maps, and their text.
use Rattle.std.specs.Prelude.{ℕ, ◌+◌, List, [], ◌∷◌, ◌++◌, map, Some, codes}
use Rattle.std.specs.List.{flat_map}
use Rattle.config_base.specs.declared.config.RouterConfig.{RouterConfig}
use Rattle.config_base.specs.declared.config.Session.{Session}
use Rattle.config_base.specs.declared.config.Origination.{Origination}
use Rattle.config_lines.specs.declared.line.Line.{Line}
use Rattle.config_lines.specs.declared.line.Line.TheVariants as line
use Rattle.config_text.specs.ConfigLines.{head_of, import_of}
use Rattle.route_maps.specs.declared.maps.ListLine.{ListLine}
use Rattle.route_maps.specs.Maps.{PlainMaps}
use Rattle.route_map_text.specs.declared.line.MapLine.{MapLine}
use Rattle.route_map_text.specs.declared.line.MapLine.TheVariants as written
use Rattle.route_map_text.specs.MapLineText.{map_line_text}

-- those of the lists, which are numbered from n
abbrev pub lines_of_list : ℕ → List ListLine → List MapLine
lines_of_list n lines = map (written.List (Some n)) lines

abbrev pub lines_of_lists : ℕ → List (List ListLine) → List MapLine
lines_of_lists n [] = []
lines_of_lists n (l ∷ ls) = lines_of_list n l ++ lines_of_lists (n + 1) ls

-- entries, numbered by tens from k
abbrev pub numbered : ℕ → List Line → List MapLine
numbered k [] = []
numbered k (l ∷ ls) = written.Entry (Some k) l ∷ numbered (k + 10) ls

-- the head line of a neighbour, its `in` lines and its `out` lines, both numbered from 10
abbrev pub lines_of_session : Session → List MapLine
lines_of_session s = written.Block (head_of s) ∷ (numbered 10 (map (import_of s.peer) s.imports) ++ numbered 10 (map line.Export s.exports))

abbrev pub network_of : Origination → MapLine
network_of o = written.Block (line.Origination o)

-- the head line of a router, its `network` lines, the blocks of its neighbours, and `end`
abbrev pub lines_before_end : RouterConfig → List MapLine
lines_before_end r = written.Block (line.Router r.name r.asn r.id) ∷ (map network_of r.own ++ flat_map lines_of_session r.sessions)

abbrev pub lines_of_router : RouterConfig → List MapLine
lines_of_router r = lines_before_end r ++ written.Block line.End ∷ []

-- those of the lists, and then those of the routers
abbrev pub map_lines : PlainMaps → List MapLine
map_lines m = lines_of_lists 1 m.lists ++ flat_map lines_of_router m.routers

-- a line and its line feed
abbrev pub fed : MapLine → List ℕ
fed l = map_line_text l ++ codes "\n"

-- without its line feed
abbrev pub first_line : List ℕ
first_line = codes "propane-maps 1"

abbrev pub maps_text : PlainMaps → List ℕ
maps_text m = first_line ++ codes "\n" ++ flat_map fed (map_lines m)
