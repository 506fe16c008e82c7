-- The lines of a configuration.
use Rattle.std.specs.Prelude.{ℕ, ◌+◌, Bool, List, [], ◌∷◌, ◌++◌, map, Some, codes, if◌then◌else◌}
use Rattle.std.specs.List.{flat_map}
use Rattle.net_base.specs.Prefixes.{PlainPattern}
use Rattle.config_base.specs.declared.config.RouterConfig.{RouterConfig}
use Rattle.config_base.specs.declared.config.Session.{Session}
use Rattle.config_base.specs.declared.config.Import.{Import}
use Rattle.config_base.specs.Configs.{PlainConfig}
use Rattle.config_lines.specs.declared.edition.Edition.{Edition}
use Rattle.config_lines.specs.declared.line.Line.{Line}
use Rattle.config_lines.specs.declared.line.Line.TheVariants as line
use Rattle.config_lines.specs.LineText.{line_text}

-- a line in an edition, and its line feed
abbrev pub fed : Edition → Line → List ℕ
fed edition l = line_text edition l ++ codes "\n"

-- numbered from k
abbrev pub lines_of_classes : ℕ → List (List PlainPattern) → List Line
lines_of_classes k [] = []
lines_of_classes k (c ∷ cs) = line.Class (Some k) c ∷ lines_of_classes (k + 1) cs

abbrev pub head_of : Session → Line
head_of s = if s.peer then line.Peer s.name s.asn else line.Session s.name s.asn

abbrev pub import_of : Bool → Import → Line
import_of peer r = if peer then line.PeerImport r else line.Import r

-- the head line of a neighbour, its imports, its exports
abbrev pub lines_of_session : Session → List Line
lines_of_session s = head_of s ∷ (map (import_of s.peer) s.imports ++ map line.Export s.exports)

-- the head line of a router, its originate lines, the blocks of its neighbours
abbrev pub lines_before_end : RouterConfig → List Line
lines_before_end r = line.Router r.name r.asn r.id ∷ (map line.Origination r.own ++ flat_map lines_of_session r.sessions)

-- and `end`
abbrev pub lines_of_router : RouterConfig → List Line
lines_of_router r = lines_before_end r ++ line.End ∷ []

-- those of the classes, and then those of the routers
abbrev pub lines : PlainConfig → List Line
lines c = lines_of_classes 1 c.classes ++ flat_map lines_of_router c.routers
