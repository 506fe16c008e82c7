-- What was read so far, and what the next line makes of it.
use Rattle.std.specs.Prelude.{ℕ, ◌*◌, ◌&&◌, ◌==◌, nat_lt, Bool, true, false, List, [], ◌∷◌, ◌++◌, length, is_none, Option, Some, None, option_and_then, Result, Ok, if◌then◌else◌}
use Rattle.net_base.specs.Steps.{◌>>=◌, unless}
use Rattle.config_base.specs.declared.config.Session.{Session}
use Rattle.config_lines.specs.declared.line.Line.{Line}
use Rattle.config_lines.specs.declared.line.Line.TheVariants as line
use Rattle.config_reader.specs.declared.reading.OpenRouter.{OpenRouter}
use Rattle.config_reader.specs.declared.reading.Reading.{Reading}
use Rattle.config_reader.specs.declared.reading.Misplaced.{Misplaced}
use Rattle.config_reader.specs.declared.reading.Misplaced.TheVariants.{Order}
use Rattle.config_reader.specs.Reading.{opening as no_block, after}
use Rattle.route_maps.specs.declared.maps.ListLine.{ListLine}
use Rattle.route_map_text.specs.declared.line.MapLine.{MapLine}
use Rattle.route_map_text.specs.declared.line.MapLine.TheVariants as written
use Rattle.map_reader.specs.declared.reading.MapsReading.{MapsReading}

-- nothing was read
abbrev pub opening : MapsReading
opening = record { lists = []; blocks = no_block }

-- ---- lists

-- it's the number of the last of so many lists, and no router's line stood yet
abbrev pub continues : Option ℕ → ℕ → Reading → Bool
continues None lists blocks = false
continues (Some n) lists blocks = n == lists && (nat_lt 0 n && (is_none blocks.opened && length blocks.routers == 0))

-- the last list has one line more
abbrev pub on_last : List (List ListLine) → ListLine → List (List ListLine)
on_last [] l = []
on_last (x ∷ xs) l = at_last x xs l (on_last xs l)
  where
    at_last : List ListLine → List (List ListLine) → ListLine → List (List ListLine) → List (List ListLine)
    at_last x [] l later = (x ++ l ∷ []) ∷ []
    at_last x (y ∷ ys) l later = x ∷ later

-- a line of the last list, or the first of the next one, which comes as the next class of a configuration does
unfoldable pub with_list : MapsReading → Option ℕ → ListLine → Result MapsReading Misplaced
with_list r number l =
    if continues number (length r.lists) r.blocks then Ok (record { lists = on_last r.lists l; blocks = r.blocks })
    else (do
      blocks ← after r.blocks (line.Class number (l.pattern ∷ []))
      Ok (record { lists = r.lists ++ (l ∷ []) ∷ []; blocks = blocks }))

-- ---- blocks

-- as a line of a configuration is taken
unfoldable pub in_blocks : MapsReading → Line → Result MapsReading Misplaced
in_blocks r l = do
  blocks ← after r.blocks l
  Ok (record { lists = r.lists; blocks = blocks })

abbrev pub is_out : Line → Bool
is_out (line.Export e) = true
is_out _ = false

-- how many `out` entries, or else `in` entries, the neighbour's block has that is open
abbrev pub entries_in : Bool → Option Session → ℕ
entries_in out None = 0
entries_in out (Some b) = if out then length b.exports else length b.imports

abbrev pub entries_of : Bool → Reading → ℕ
entries_of out r = entries_in out (option_and_then (λ (o : OpenRouter). o.block) r.opened)

-- the last of so many entries has ten times their number
abbrev pub is_number_of : Option ℕ → ℕ → Bool
is_number_of None count = false
is_number_of (Some k) count = k == 10 * count

-- an entry, with the number that it has to have
unfoldable pub with_entry : MapsReading → Option ℕ → Line → Result MapsReading Misplaced
with_entry r number l = do
  next ← in_blocks r l
  _ ← unless Order (is_number_of number (entries_of (is_out l) next.blocks))
  Ok next

-- what was read so far with one more line, or why the line can't follow
abbrev pub after_map : MapsReading → MapLine → Result MapsReading Misplaced
after_map r (written.List number l) = with_list r number l
after_map r (written.Entry number l) = with_entry r number l
after_map r (written.Block l) = in_blocks r l
