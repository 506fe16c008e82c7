-- Which maps a text spells, or its first fault.
use Rattle.std.specs.Prelude.{ℕ, ◌==◌, ◌&&◌, not, is_none, List, [], ◌∷◌, length, Result, Ok, Err}
use Rattle.std.specs.Str.{bytes_eq}
use Rattle.net_base.specs.Steps.{◌>>=◌, unless}
use Rattle.config_lines.specs.declared.line.LineFault.{LineFault}
use Rattle.config_lines.specs.declared.line.LineFault.TheVariants as line
use Rattle.config_reader.specs.declared.reading.Misplaced.{Misplaced}
use Rattle.config_reader.specs.declared.reading.Misplaced.TheVariants as misplaced
use Rattle.config_lines.specs.LineLines.{lines_of, whole_lines, last_line, line_by_line}
use Rattle.route_maps.specs.Maps.{PlainMaps}
use Rattle.route_map_text.specs.declared.line.MapLine.{MapLine}
use Rattle.route_map_text.specs.MapLines.{map_line_of}
use Rattle.route_map_text.specs.MapsLines.{first_line}
use Rattle.config_reader.specs.declared.fault.ConfigFault.{ConfigFault}
use Rattle.config_reader.specs.declared.fault.ConfigFault.TheVariants as fault
use Rattle.map_reader.specs.declared.reading.MapsReading.{MapsReading}
use Rattle.map_reader.specs.MapsReading.{opening, after_map}

-- the line with this number is of no form, or has a wrong number
abbrev pub read_at : ℕ → Result MapLine LineFault → Result MapLine ConfigFault
read_at n (Ok l) = Ok l
read_at n (Err line.Form) = Err (fault.Line n)
read_at n (Err line.Number) = Err (fault.Number n)
read_at n (Err line.NoMemory) = Err fault.NoMemory

-- the line with this number can't follow
abbrev pub placed_at : ℕ → Result MapsReading Misplaced → Result MapsReading ConfigFault
placed_at n (Ok r) = Ok r
placed_at n (Err misplaced.Order) = Err (fault.Order n)
placed_at n (Err misplaced.Twice) = Err (fault.Twice n)
placed_at n (Err misplaced.NoMemory) = Err fault.NoMemory

-- what was read with one line more, which has this number
unfoldable pub with_line : ℕ → MapsReading → List ℕ → Result MapsReading ConfigFault
with_line n r bytes = do
  l ← read_at n (map_line_of bytes (length r.lists))
  placed_at n (after_map r l)

-- line by line, of which the first one has this number
abbrev pub with_lines : ℕ → MapsReading → List (List ℕ) → Result MapsReading ConfigFault
with_lines = line_by_line with_line

-- no block is open, and nothing follows the last line feed
unfoldable pub finished : MapsReading → List ℕ → Result PlainMaps ConfigFault
finished r rest = do
  _ ← unless fault.Unfinished (is_none r.blocks.opened && length rest == 0)
  Ok (record { lists = r.lists; routers = r.blocks.routers })

-- behind the first line: whole lines, and then what follows the last line feed
unfoldable pub behind_heading : List (List ℕ) → Result PlainMaps ConfigFault
behind_heading more = do
  r ← with_lines 2 opening (whole_lines more)
  finished r (last_line more)

-- the first line, and what stands between and behind the line feeds
unfoldable pub in_lines : List (List ℕ) → Result PlainMaps ConfigFault
in_lines [] = Err fault.Version
in_lines (first ∷ more) = do
  _ ← unless fault.Version (not (length more == 0) && bytes_eq first first_line)
  behind_heading more

-- the text is cut at each line feed
abbrev pub spelled : List ℕ → Result PlainMaps ConfigFault
spelled bytes = in_lines (lines_of bytes)
