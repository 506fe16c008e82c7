-- How lines are written, each without its line feed, and what each keeps.
use Rattle.std.specs.Prelude.{◌≡◌, ◌≢◌, ℕ, ◌<◌, ◌^◌, IsTrue, Bool, true, false, List, [], ◌∷◌, ◌++◌, Option, Some, None, ⊤, codes, if◌then◌else◌}
use Rattle.std.specs.List.{flat_map, AllByRecursion}
use Rattle.std.specs.Fmt.{decimal}
use Rattle.net_base.specs.NameRule.{is_name}
use Rattle.net_base.specs.Numbers.{no_tag}
use Rattle.net_base.specs.Prefixes.{PlainPattern, IsPrefix, IsPattern}
use Rattle.net_base.specs.declared.numbers.Tag.{Tag}
use Rattle.text_parts.specs.Texts.{address_text, prefix_text, pattern_text}
use Rattle.config_base.specs.declared.config.Import.{Import}
use Rattle.config_base.specs.Configs.{IsClass}
use Rattle.config_lines.specs.declared.edition.Edition.{Edition}
use Rattle.config_lines.specs.declared.line.Line.{Line}
use Rattle.config_lines.specs.declared.line.Line.TheVariants.{Class, Router, Origination, Session, Peer, Import as ImportLine, PeerImport, Export, End}
use Rattle.config_lines.specs.Editions.{tag_text, fits_router, fits_peer, fits_tag}

abbrev pub next_pattern : PlainPattern → List ℕ
next_pattern t = codes ", " ++ pattern_text t

-- patterns joined by a comma and a space
abbrev pub joined_patterns : List PlainPattern → List ℕ
joined_patterns [] = []
joined_patterns (t ∷ ts) = pattern_text t ++ flat_map next_pattern ts

-- a class number that is too large for any class has no text here
abbrev pub class_number_text : Option ℕ → List ℕ
class_number_text (Some n) = decimal n
class_number_text None = []

-- in the block of a peer an import names no tag
unfoldable pub read_tag : Edition → Bool → Tag → List ℕ
read_tag edition peer tag = if peer then [] else codes " tag " ++ tag_text edition tag

-- what an import gives a route
abbrev pub set_text : Edition → Import → List ℕ
set_text edition r = codes " set " ++ tag_text edition r.set ++ codes " pref " ++ decimal r.pref

-- an import, in the block of a peer or of a router
unfoldable pub import_text : Edition → Bool → Import → List ℕ
import_text edition peer r = codes "import " ++ decimal r.class ++ read_tag edition peer r.tag ++ set_text edition r

abbrev pub line_text : Edition → Line → List ℕ
line_text edition (Class number patterns) = codes "class " ++ class_number_text number ++ codes " " ++ joined_patterns patterns
line_text edition (Router name asn id) = codes "router " ++ name ++ codes " asn " ++ decimal asn ++ codes " id " ++ address_text id
line_text edition (Origination o) = codes "originate " ++ decimal o.class ++ codes " " ++ prefix_text o.prefix ++ codes " tag " ++ tag_text edition o.tag
line_text edition (Session name asn) = codes "session " ++ name ++ codes " asn " ++ decimal asn
line_text edition (Peer name asn) = codes "peer " ++ name ++ codes " asn " ++ decimal asn
line_text edition (ImportLine r) = import_text edition false r
line_text edition (PeerImport r) = import_text edition true r
line_text edition (Export e) = codes "export " ++ decimal e.class ++ codes " tag " ++ tag_text edition e.tag
line_text edition End = codes "end"

-- ---- what a line of an edition keeps, where there are `count` classes

abbrev pub IsClassNumber : Option ℕ → Type 0
IsClassNumber (Some n) = n < 2 ^ 32
IsClassNumber None = ⊥

-- what an import gives a route, and its class
abbrev pub IsSetting : Edition → ℕ → Import → Type 0
IsSetting edition count r = IsClass count r.class × IsTrue (fits_tag edition r.set) × (r.pref < 2 ^ 32)

abbrev pub IsLine : Edition → ℕ → Line → Type 0
IsLine edition count (Class number patterns) = IsClassNumber number × (patterns ≢ []) × AllByRecursion IsPattern patterns
IsLine edition count (Router name asn id) = IsTrue (is_name name) × IsTrue (fits_router edition asn) × (id ≢ 0) × (id < 2 ^ 32)
IsLine edition count (Origination o) = (IsClass count o.class × IsTrue (fits_tag edition o.tag)) × IsPrefix o.prefix
IsLine edition count (Session name asn) = IsTrue (is_name name) × IsTrue (fits_router edition asn)
IsLine edition count (Peer name asn) = IsTrue (is_name name) × IsTrue (fits_peer edition asn)
IsLine edition count (ImportLine r) = IsTrue (fits_tag edition r.tag) × IsSetting edition count r
IsLine edition count (PeerImport r) = (r.tag ≡ no_tag) × IsSetting edition count r
IsLine edition count (Export e) = IsClass count e.class × IsTrue (fits_tag edition e.tag)
IsLine edition count End = ⊤

-- its class number, if it is the line of a class, isn't too large for any class
abbrev pub IsNumbered : Line → Type 0
IsNumbered (Class None patterns) = ⊥
IsNumbered _ = ⊤
