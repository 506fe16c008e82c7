-- Which line of a maps text bytes spell: its form first, and then each of its numbers. Tags and numbers are those of the second edition
-- of configuration texts.
use Rattle.std.specs.Prelude.{ℕ, ◌==◌, Bool, true, false, List, [], ◌∷◌, length, Result, Ok, Err, codes, if◌then◌else◌}
use Rattle.std.specs.List.{slice_split}
use Rattle.std.specs.Str.{bytes_eq}
use Rattle.net_base.specs.Numbers.{no_tag}
use Rattle.net_base.specs.PrefixText.{prefix_spelled}
use Rattle.net_base.specs.Steps.{◌>>=◌}
use Rattle.config_lines.specs.declared.edition.Edition.TheVariants.{Second}
use Rattle.config_lines.specs.declared.line.Line.{Line}
use Rattle.config_lines.specs.declared.line.Line.TheVariants as line
use Rattle.config_lines.specs.declared.line.LineFault.{LineFault}
use Rattle.config_lines.specs.declared.line.LineFault.TheVariants.{Form}
use Rattle.config_lines.specs.declared.number.Figure.{Figure}
use Rattle.config_lines.specs.Lines.{router_line, session_line, peer_line, setting, end_line}
use Rattle.config_lines.specs.Numbers.{number_of, in_range, class_in, class_number, tag_in_range}
use Rattle.config_lines.specs.Patterns.{pattern_of}
use Rattle.config_lines.specs.Words.{is_word, as_prefix, tag_of}
use Rattle.route_map_text.specs.declared.line.MapLine.{MapLine}
use Rattle.route_map_text.specs.declared.line.MapLine.TheVariants.{List as ListOf, Entry, Block}

-- ---- each form, by what follows its first word

unfoldable pub kind_of : List ℕ → Result Bool LineFault
kind_of word = if bytes_eq word (codes "permit") then Ok true else (if bytes_eq word (codes "deny") then Ok false else Err Form)

-- list N deny PATTERN, list N permit PATTERN
unfoldable pub list_line : List (List ℕ) → Result MapLine LineFault
list_line (number ∷ kind ∷ pattern) = do
  n ← number_of number
  permit ← kind_of kind
  t ← pattern_of pattern
  k ← class_number n
  Ok (ListOf k (record { permit = permit; pattern = t }))
list_line _ = Err Form

-- network PREFIX list N set T
unfoldable pub network_line : ℕ → List (List ℕ) → Result Line LineFault
network_line lists (prefix ∷ list ∷ n ∷ set ∷ t ∷ []) = do
  p ← as_prefix (prefix_spelled prefix)
  _ ← is_word (codes "list") list
  n ← number_of n
  _ ← is_word (codes "set") set
  t ← tag_of Second t
  class ← class_in lists n
  tag ← tag_in_range Second t
  Ok (line.Origination (record { class = class; prefix = p; tag = tag }))
network_line lists _ = Err Form

-- match T set T pref N, behind the list
unfoldable pub matched : ℕ → Figure → List (List ℕ) → Result Line LineFault
matched lists n (match' ∷ t ∷ words) = do
  _ ← is_word (codes "match") match'
  t ← tag_of Second t
  s ← setting Second words
  class ← class_in lists n
  tag ← tag_in_range Second t
  set ← tag_in_range Second s.set
  pref ← in_range s.pref
  Ok (line.Import (record { class = class; tag = tag; set = set; pref = pref }))
matched lists n _ = Err Form

-- set T pref N, behind the list
unfoldable pub unmatched : ℕ → Figure → List (List ℕ) → Result Line LineFault
unmatched lists n words = do
  s ← setting Second words
  class ← class_in lists n
  set ← tag_in_range Second s.set
  pref ← in_range s.pref
  Ok (line.PeerImport (record { class = class; tag = no_tag; set = set; pref = pref }))

-- in K list N, and behind it six words in the block of a router
unfoldable pub in_line : ℕ → List (List ℕ) → Result MapLine LineFault
in_line lists (k ∷ list ∷ n ∷ words) = do
  k ← number_of k
  _ ← is_word (codes "list") list
  n ← number_of n
  l ← (if length words == 6 then matched lists n words else unmatched lists n words)
  number ← class_number k
  Ok (Entry number l)
in_line lists _ = Err Form

-- match T, behind the list
unfoldable pub exported : ℕ → Figure → List (List ℕ) → Result Line LineFault
exported lists n (match' ∷ t ∷ []) = do
  _ ← is_word (codes "match") match'
  t ← tag_of Second t
  class ← class_in lists n
  tag ← tag_in_range Second t
  Ok (line.Export (record { class = class; tag = tag }))
exported lists n _ = Err Form

-- out K list N match T
unfoldable pub out_line : ℕ → List (List ℕ) → Result MapLine LineFault
out_line lists (k ∷ list ∷ n ∷ words) = do
  k ← number_of k
  _ ← is_word (codes "list") list
  n ← number_of n
  l ← exported lists n words
  number ← class_number k
  Ok (Entry number l)
out_line lists _ = Err Form

-- ---- any line, where there are so many lists above it

-- a line of a configuration
abbrev pub as_block : Result Line LineFault → Result MapLine LineFault
as_block (Ok l) = Ok (Block l)
as_block (Err e) = Err e

-- by its first word and what follows it
unfoldable pub form_line : ℕ → List ℕ → List (List ℕ) → Result MapLine LineFault
form_line lists word words =
    if bytes_eq word (codes "list") then list_line words
    else (if bytes_eq word (codes "router") then as_block (router_line Second words)
    else (if bytes_eq word (codes "network") then as_block (network_line lists words)
    else (if bytes_eq word (codes "neighbor") then as_block (session_line Second words)
    else (if bytes_eq word (codes "peer") then as_block (peer_line Second words)
    else (if bytes_eq word (codes "in") then in_line lists words
    else (if bytes_eq word (codes "out") then out_line lists words
    else (if bytes_eq word (codes "end") then as_block (end_line words)
    else Err Form)))))))

abbrev pub words_line : ℕ → List (List ℕ) → Result MapLine LineFault
words_line lists [] = Err Form
words_line lists (word ∷ words) = form_line lists word words

-- the words stand between spaces
abbrev pub map_line_of : List ℕ → ℕ → Result MapLine LineFault
map_line_of bytes lists = words_line lists (slice_split (λ b. b == 32) bytes)
