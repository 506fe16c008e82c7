-- Which configuration a text of an edition spells, or its first fault.
use Rattle.std.specs.Prelude.{ℕ, ◌==◌, ◌&&◌, not, is_none, List, [], ◌∷◌, length, Result, Ok, Err}
use Rattle.std.specs.Str.{bytes_eq}
use Rattle.net_base.specs.Steps.{◌>>=◌, unless}
use Rattle.config_base.specs.Configs.{PlainConfig}
use Rattle.config_lines.specs.declared.edition.Edition.{Edition}
use Rattle.config_lines.specs.declared.edition.Edition.TheVariants.{Second}
use Rattle.config_lines.specs.declared.line.Line.{Line}
use Rattle.config_lines.specs.declared.line.LineFault.{LineFault}
use Rattle.config_lines.specs.declared.line.LineFault.TheVariants as line
use Rattle.config_lines.specs.Editions.{first_line}
use Rattle.config_lines.specs.Lines.{line_of}
use Rattle.config_lines.specs.LineLines.{lines_of, whole_lines, last_line, line_by_line}
use Rattle.config_reader.specs.declared.fault.ConfigFault.{ConfigFault}
use Rattle.config_reader.specs.declared.fault.ConfigFault.TheVariants as fault
use Rattle.config_reader.specs.declared.reading.Reading.{Reading}
use Rattle.config_reader.specs.declared.reading.Misplaced.{Misplaced}
use Rattle.config_reader.specs.declared.reading.Misplaced.TheVariants as misplaced
use Rattle.config_reader.specs.Reading.{opening, after}

-- the line with this number is of no form, or has a wrong number
abbrev pub read_at : ℕ → Result Line LineFault → Result Line ConfigFault
read_at n (Ok l) = Ok l
read_at n (Err line.Form) = Err (fault.Line n)
read_at n (Err line.Number) = Err (fault.Number n)
read_at n (Err line.NoMemory) = Err fault.NoMemory

-- the line with this number can't follow
abbrev pub placed_at : ℕ → Result Reading Misplaced → Result Reading ConfigFault
placed_at n (Ok r) = Ok r
placed_at n (Err misplaced.Order) = Err (fault.Order n)
placed_at n (Err misplaced.Twice) = Err (fault.Twice n)
placed_at n (Err misplaced.NoMemory) = Err fault.NoMemory

-- what was read with one line more, which has this number
unfoldable pub with_line : Edition → ℕ → Reading → List ℕ → Result Reading ConfigFault
with_line edition n r bytes = do
  l ← read_at n (line_of edition bytes (length r.classes))
  placed_at n (after r l)

-- line by line, of which the first one has this number
abbrev pub with_lines : Edition → ℕ → Reading → List (List ℕ) → Result Reading ConfigFault
with_lines edition = line_by_line (with_line edition)

-- no block is open, and nothing follows the last line feed
unfoldable pub finished : Reading → List ℕ → Result PlainConfig ConfigFault
finished r rest = do
  _ ← unless fault.Unfinished (is_none r.opened && length rest == 0)
  Ok (record { classes = r.classes; routers = r.routers })

-- behind the first line: whole lines, and then what follows the last line feed
unfoldable pub behind_heading : Edition → List (List ℕ) → Result PlainConfig ConfigFault
behind_heading edition more = do
  r ← with_lines edition 2 opening (whole_lines more)
  finished r (last_line more)

-- the first line, and what stands between and behind the line feeds
unfoldable pub in_lines : Edition → List (List ℕ) → Result PlainConfig ConfigFault
in_lines edition [] = Err fault.Version
in_lines edition (first ∷ more) = do
  _ ← unless fault.Version (not (length more == 0) && bytes_eq first (first_line edition))
  behind_heading edition more

-- the text is cut at each line feed
abbrev pub spelled_in : Edition → List ℕ → Result PlainConfig ConfigFault
spelled_in edition bytes = in_lines edition (lines_of bytes)

-- as texts are written: in the second edition
abbrev pub spelled : List ℕ → Result PlainConfig ConfigFault
spelled bytes = spelled_in Second bytes
