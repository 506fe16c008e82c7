-- Which line bytes spell: its form first, and then each of its numbers.
use Rattle.std.specs.Prelude.{ℕ, ◌==◌, List, [], ◌∷◌, length, Result, Ok, Err, codes, if◌then◌else◌}
use Rattle.std.specs.List.{slice_split}
use Rattle.std.specs.Str.{bytes_eq}
use Rattle.net_base.specs.Addresses.{address_of}
use Rattle.net_base.specs.Numbers.{no_tag}
use Rattle.net_base.specs.PrefixText.{prefix_spelled}
use Rattle.net_base.specs.Steps.{◌>>=◌, unless}
use Rattle.config_lines.specs.declared.edition.Edition.{Edition}
use Rattle.config_lines.specs.declared.line.Line.{Line}
use Rattle.config_lines.specs.declared.line.Line.TheVariants as line
use Rattle.config_lines.specs.declared.line.LineFault.{LineFault}
use Rattle.config_lines.specs.declared.line.LineFault.TheVariants.{Form, Number}
use Rattle.config_lines.specs.declared.number.Setting.{Setting}
use Rattle.config_lines.specs.Editions.{fits_router, fits_peer}
use Rattle.config_lines.specs.Numbers.{number_of, in_range, class_in, class_number, tag_in_range}
use Rattle.config_lines.specs.Patterns.{pattern_of, later_patterns}
use Rattle.config_lines.specs.Words.{is_word, name_of, identifier_of, as_prefix, tag_of}

-- ---- each form, by what follows its first word

-- class N PATTERN, and the pieces behind the commas
unfoldable pub class_line : List (List ℕ) → List (List ℕ) → Result Line LineFault
class_line [] pieces = Err Form
class_line (number ∷ pattern) pieces = do
  n ← number_of number
  first ← pattern_of pattern
  patterns ← later_patterns (first ∷ []) pieces
  k ← class_number n
  Ok (line.Class k patterns)

-- router NAME asn N id A.B.C.D
unfoldable pub router_line : Edition → List (List ℕ) → Result Line LineFault
router_line edition (name ∷ asn ∷ n ∷ id ∷ address ∷ []) = do
  _ ← is_word (codes "asn") asn
  _ ← is_word (codes "id") id
  n ← number_of n
  i ← identifier_of (address_of address)
  name ← name_of name
  asn ← in_range n
  _ ← unless Number (fits_router edition asn)
  Ok (line.Router name asn i)
router_line edition _ = Err Form

-- originate N PREFIX tag T
unfoldable pub own_line : Edition → ℕ → List (List ℕ) → Result Line LineFault
own_line edition classes (n ∷ prefix ∷ tag ∷ t ∷ []) = do
  n ← number_of n
  p ← as_prefix (prefix_spelled prefix)
  _ ← is_word (codes "tag") tag
  t ← tag_of edition t
  class ← class_in classes n
  tag ← tag_in_range edition t
  Ok (line.Origination (record { class = class; prefix = p; tag = tag }))
own_line edition classes _ = Err Form

-- NAME asn N
unfoldable pub neighbour : List (List ℕ) → Result (List ℕ × ℕ) LineFault
neighbour (name ∷ asn ∷ n ∷ []) = do
  _ ← is_word (codes "asn") asn
  name ← name_of name
  n ← number_of n
  asn ← in_range n
  Ok (name, asn)
neighbour _ = Err Form

-- session NAME asn N
unfoldable pub session_line : Edition → List (List ℕ) → Result Line LineFault
session_line edition words = do
  n ← neighbour words
  _ ← unless Number (fits_router edition n.1)
  Ok (line.Session n.0 n.1)

-- peer NAME asn N
unfoldable pub peer_line : Edition → List (List ℕ) → Result Line LineFault
peer_line edition words = do
  n ← neighbour words
  _ ← unless Number (fits_peer edition n.1)
  Ok (line.Peer n.0 n.1)

-- set T pref N
unfoldable pub setting : Edition → List (List ℕ) → Result Setting LineFault
setting edition (set ∷ t ∷ pref ∷ n ∷ []) = do
  _ ← is_word (codes "set") set
  t ← tag_of edition t
  _ ← is_word (codes "pref") pref
  n ← number_of n
  Ok (record { set = t; pref = n })
setting edition _ = Err Form

-- import N tag T set T pref N
unfoldable pub tagged_line : Edition → ℕ → List (List ℕ) → Result Line LineFault
tagged_line edition classes (n ∷ tag ∷ t ∷ words) = do
  n ← number_of n
  _ ← is_word (codes "tag") tag
  t ← tag_of edition t
  s ← setting edition words
  class ← class_in classes n
  tag ← tag_in_range edition t
  set ← tag_in_range edition s.set
  pref ← in_range s.pref
  Ok (line.Import (record { class = class; tag = tag; set = set; pref = pref }))
tagged_line edition classes _ = Err Form

-- import N set T pref N
unfoldable pub untagged_line : Edition → ℕ → List (List ℕ) → Result Line LineFault
untagged_line edition classes [] = Err Form
untagged_line edition classes (n ∷ words) = do
  n ← number_of n
  s ← setting edition words
  class ← class_in classes n
  set ← tag_in_range edition s.set
  pref ← in_range s.pref
  Ok (line.PeerImport (record { class = class; tag = no_tag; set = set; pref = pref }))

-- in the block of a router, with seven words, or of a peer
unfoldable pub import_line : Edition → ℕ → List (List ℕ) → Result Line LineFault
import_line edition classes words = if length words == 7 then tagged_line edition classes words else untagged_line edition classes words

-- export N tag T
unfoldable pub export_line : Edition → ℕ → List (List ℕ) → Result Line LineFault
export_line edition classes (n ∷ tag ∷ t ∷ []) = do
  n ← number_of n
  _ ← is_word (codes "tag") tag
  t ← tag_of edition t
  class ← class_in classes n
  tag ← tag_in_range edition t
  Ok (line.Export (record { class = class; tag = tag }))
export_line edition classes _ = Err Form

-- end
unfoldable pub end_line : List (List ℕ) → Result Line LineFault
end_line [] = Ok line.End
end_line _ = Err Form

-- ---- any line, where there are so many classes above it

-- by its first word and what follows it
unfoldable pub form_line : Edition → ℕ → List ℕ → List (List ℕ) → Result Line LineFault
form_line edition classes word words =
    if bytes_eq word (codes "router") then router_line edition words
    else (if bytes_eq word (codes "originate") then own_line edition classes words
    else (if bytes_eq word (codes "session") then session_line edition words
    else (if bytes_eq word (codes "peer") then peer_line edition words
    else (if bytes_eq word (codes "import") then import_line edition classes words
    else (if bytes_eq word (codes "export") then export_line edition classes words
    else (if bytes_eq word (codes "end") then end_line words
    else Err Form))))))

-- by the words of its first piece and its other pieces: a comma stands in `class` lines alone
unfoldable pub words_line : Edition → ℕ → List (List ℕ) → List (List ℕ) → Result Line LineFault
words_line edition classes [] pieces = Err Form
words_line edition classes (word ∷ words) pieces =
    if bytes_eq word (codes "class") then class_line words pieces
    else (if length pieces == 0 then form_line edition classes word words
    else Err Form)

abbrev pub pieces_line : Edition → ℕ → List (List ℕ) → Result Line LineFault
pieces_line edition classes [] = Err Form
pieces_line edition classes (piece ∷ pieces) = words_line edition classes (slice_split (λ b. b == 32) piece) pieces

-- the pieces stand between commas, the words of a piece between spaces
unfoldable pub line_of : Edition → List ℕ → ℕ → Result Line LineFault
line_of edition bytes classes = pieces_line edition classes (slice_split (λ b. b == 44) bytes)
