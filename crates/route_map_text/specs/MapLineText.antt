-- How lines of maps texts are written, each without its line feed, and what each keeps.
use Rattle.std.specs.Prelude.{ℕ, Bool, List, [], ◌++◌, None, ⊤, codes, if◌then◌else◌}
use Rattle.std.specs.Fmt.{decimal}
use Rattle.net_base.specs.Prefixes.{IsPattern}
use Rattle.text_parts.specs.Texts.{prefix_text, pattern_text}
use Rattle.config_lines.specs.declared.edition.Edition.TheVariants.{Second}
use Rattle.config_lines.specs.declared.line.Line.{Line}
use Rattle.config_lines.specs.declared.line.Line.TheVariants as line
use Rattle.config_lines.specs.Editions.{tag_text}
use Rattle.config_lines.specs.LineText.{class_number_text, set_text, line_text, IsClassNumber, IsLine}
use Rattle.route_map_text.specs.declared.line.MapLine.{MapLine}
use Rattle.route_map_text.specs.declared.line.MapLine.TheVariants.{List as ListOf, Entry, Block}

abbrev pub kind_text : Bool → List ℕ
kind_text permit = if permit then codes " permit " else codes " deny "

-- the first word of an entry
abbrev pub entry_word : Line → List ℕ
entry_word (line.Export e) = codes "out "
entry_word _ = codes "in "

-- what stands behind the number of an entry
abbrev pub entry_text : Line → List ℕ
entry_text (line.Import r) = codes " list " ++ decimal r.class ++ codes " match " ++ tag_text Second r.tag ++ set_text Second r
entry_text (line.PeerImport r) = codes " list " ++ decimal r.class ++ set_text Second r
entry_text (line.Export e) = codes " list " ++ decimal e.class ++ codes " match " ++ tag_text Second e.tag
entry_text _ = []

-- a line that is neither of a list nor an entry
abbrev pub block_text : Line → List ℕ
block_text (line.Origination o) = codes "network " ++ prefix_text o.prefix ++ codes " list " ++ decimal o.class ++ codes " set " ++ tag_text Second o.tag
block_text (line.Session name asn) = codes "neighbor " ++ name ++ codes " asn " ++ decimal asn
block_text l = line_text Second l

abbrev pub map_line_text : MapLine → List ℕ
map_line_text (ListOf number l) = codes "list " ++ class_number_text number ++ kind_text l.permit ++ pattern_text l.pattern
map_line_text (Entry number l) = entry_word l ++ class_number_text number ++ entry_text l
map_line_text (Block l) = block_text l

-- ---- what a line keeps, where there are `count` lists

abbrev pub IsEntry : Line → Type 0
IsEntry (line.Import r) = ⊤
IsEntry (line.PeerImport r) = ⊤
IsEntry (line.Export e) = ⊤
IsEntry _ = ⊥

abbrev pub IsBlock : Line → Type 0
IsBlock (line.Router name asn id) = ⊤
IsBlock (line.Origination o) = ⊤
IsBlock (line.Session name asn) = ⊤
IsBlock (line.Peer name asn) = ⊤
IsBlock line.End = ⊤
IsBlock _ = ⊥

abbrev pub IsMapLine : ℕ → MapLine → Type 0
IsMapLine count (ListOf number l) = IsClassNumber number × IsPattern l.pattern
IsMapLine count (Entry number l) = IsClassNumber number × IsEntry l × IsLine Second count l
IsMapLine count (Block l) = IsBlock l × IsLine Second count l

-- its number isn't too large for any list or entry
abbrev pub IsNumbered : MapLine → Type 0
IsNumbered (ListOf None l) = ⊥
IsNumbered (Entry None l) = ⊥
IsNumbered _ = ⊤
