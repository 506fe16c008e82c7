-- The text of a configuration in an edition, line by line.
use Rattle.std.specs.Prelude.{ℕ, ◌+◌, Bool, List, [], ◌∷◌, ◌++◌, Some, codes, if◌then◌else◌}
use Rattle.std.specs.List.{flat_map}
use Rattle.std.specs.Fmt.{decimal}
use Rattle.net_base.specs.Prefixes.{PlainPattern}
use Rattle.config_base.specs.declared.config.RouterConfig.{RouterConfig}
use Rattle.config_base.specs.declared.config.Session.{Session}
use Rattle.config_base.specs.declared.config.Import.{Import}
use Rattle.config_base.specs.declared.config.Export.{Export}
use Rattle.config_base.specs.declared.config.Origination.{Origination}
use Rattle.config_base.specs.Configs.{PlainConfig}
use Rattle.config_lines.specs.declared.edition.Edition.{Edition}
use Rattle.config_lines.specs.declared.edition.Edition.TheVariants.{Second}
use Rattle.config_lines.specs.declared.line.Line.TheVariants as line
use Rattle.config_lines.specs.Editions.{first_line}
use Rattle.config_lines.specs.LineText.{import_text, line_text}

abbrev pub class_line : Edition → ℕ → List PlainPattern → List ℕ
class_line edition k patterns = line_text edition (line.Class (Some k) patterns) ++ codes "\n"

-- numbered from k
abbrev pub class_lines : Edition → ℕ → List (List PlainPattern) → List ℕ
class_lines edition k [] = []
class_lines edition k (c ∷ cs) = class_line edition k c ++ class_lines edition (k + 1) cs

abbrev pub own_line : Edition → Origination → List ℕ
own_line edition o = line_text edition (line.Origination o) ++ codes "\n"

-- an import, in the block of a peer or of a router
unfoldable pub import_line : Edition → Bool → Import → List ℕ
import_line edition peer r = import_text edition peer r ++ codes "\n"

abbrev pub export_line : Edition → Export → List ℕ
export_line edition e = line_text edition (line.Export e) ++ codes "\n"

abbrev pub session_line : Session → List ℕ
session_line s = (if s.peer then codes "peer " else codes "session ") ++ s.name ++ codes " asn " ++ decimal s.asn ++ codes "\n"

-- a neighbour's block: its head line, its imports, its exports
abbrev pub session_text : Edition → Session → List ℕ
session_text edition s = session_line s ++ flat_map (import_line edition s.peer) s.imports ++ flat_map (export_line edition) s.exports

abbrev pub router_line : Edition → RouterConfig → List ℕ
router_line edition r = line_text edition (line.Router r.name r.asn r.id) ++ codes "\n"

-- a router's block: its head line, its originate lines, the blocks of its neighbours, and `end`
abbrev pub router_text : Edition → RouterConfig → List ℕ
router_text edition r = router_line edition r ++ flat_map (own_line edition) r.own ++ flat_map (session_text edition) r.sessions ++ codes "end\n"

-- the first line, the classes numbered from 1, and the routers
abbrev pub text_in : Edition → PlainConfig → List ℕ
text_in edition c = first_line edition ++ codes "\n" ++ class_lines edition 1 c.classes ++ flat_map (router_text edition) c.routers

-- the text that is written: that of the second edition
abbrev pub config_text : PlainConfig → List ℕ
config_text c = text_in Second c
