-- What was read so far, and what the next line makes of it.
use Rattle.std.specs.Prelude.{ℕ, ◌+◌, ◌&&◌, ◌||◌, ◌==◌, not, Bool, true, false, List, [], ◌∷◌, ◌++◌, length, is_none, Option, Some, None, Result, Ok, Err, ⊤}
use Rattle.std.specs.List.{list_any}
use Rattle.std.specs.Str.{bytes_eq}
use Rattle.net_base.specs.Prefixes.{PlainPattern}
use Rattle.net_base.specs.Steps.{◌>>=◌, or_fault, unless}
use Rattle.config_base.specs.declared.config.RouterConfig.{RouterConfig}
use Rattle.config_base.specs.declared.config.Session.{Session}
use Rattle.config_base.specs.declared.config.Import.{Import}
use Rattle.config_base.specs.declared.config.Export.{Export}
use Rattle.config_base.specs.declared.config.Origination.{Origination}
use Rattle.config_base.specs.Configs.{origination_key}
use Rattle.config_lines.specs.declared.line.Line.{Line}
use Rattle.config_lines.specs.declared.line.Line.TheVariants as line
use Rattle.config_reader.specs.declared.reading.OpenRouter.{OpenRouter}
use Rattle.config_reader.specs.declared.reading.Reading.{Reading}
use Rattle.config_reader.specs.declared.reading.Misplaced.{Misplaced}
use Rattle.config_reader.specs.declared.reading.Misplaced.TheVariants.{Order, Twice}
use Rattle.config_reader.specs.Order.{ascends, import_key, export_key}

-- nothing was read
abbrev pub opening : Reading
opening = record { classes = []; routers = []; opened = None }

-- the number after so many classes
abbrev pub is_next : Option ℕ → ℕ → Bool
is_next None classes = false
is_next (Some n) classes = n == classes + 1

-- the lines of the classes come first, numbered from 1
abbrev pub takes_class : Reading → Option ℕ → Bool
takes_class r number = (is_none r.opened && length r.routers == 0) && is_next number (length r.classes)

unfoldable pub with_class : Reading → Option ℕ → List PlainPattern → Result Reading Misplaced
with_class r number patterns = do
  _ ← unless Order (takes_class r number)
  Ok (record { classes = r.classes ++ patterns ∷ []; routers = r.routers; opened = r.opened })

-- the name, the AS number or the identifier is that of this router
abbrev pub same_router : List ℕ → ℕ → ℕ → RouterConfig → Bool
same_router name asn id r = (r.asn == asn) || ((r.id == id) || bytes_eq r.name name)

-- it is that of an earlier router
abbrev pub stood_before : List ℕ → ℕ → ℕ → List RouterConfig → Bool
stood_before name asn id routers = list_any (same_router name asn id) routers

-- a router's block begins where none is open
abbrev pub takes_router : Reading → List ℕ → ℕ → ℕ → Result ⊤ Misplaced
takes_router r name asn id = do
  _ ← unless Order (is_none r.opened)
  unless Twice (not (stood_before name asn id r.routers))

unfoldable pub with_router : Reading → List ℕ → ℕ → ℕ → Result Reading Misplaced
with_router r name asn id = do
  _ ← takes_router r name asn id
  Ok (record { classes = r.classes; routers = r.routers; opened = Some (record { router = record { name = name; asn = asn; id = id; own = []; sessions = [] }; names = []; block = None }) })

-- the originate lines come before the neighbours, and ascend
unfoldable pub own_into : OpenRouter → Origination → Result OpenRouter Misplaced
own_into now own = do
  _ ← unless Order (is_none now.block && ascends origination_key now.router.own (origination_key own))
  Ok (record { router = record now.router { own = now.router.own ++ own ∷ [] }; names = now.names; block = now.block })

-- with the block that was open
abbrev pub closed : RouterConfig → Option Session → RouterConfig
closed router None = router
closed router (Some s) = record router { sessions = router.sessions ++ s ∷ [] }

-- a neighbour's block begins, and the one before it ends
unfoldable pub neighbour_into : Bool → OpenRouter → List ℕ → ℕ → Result OpenRouter Misplaced
neighbour_into peer now name asn = do
  _ ← unless Twice (not (list_any (bytes_eq name) now.names))
  Ok (record { router = closed now.router now.block; names = now.names ++ name ∷ []; block = Some (record { name = name; asn = asn; peer = peer; imports = []; exports = [] }) })

abbrev pub same_kind : Bool → Bool → Bool
same_kind true b = b
same_kind false b = not b

-- imports come before exports, in the form of their block, and ascend
unfoldable pub import_into : Bool → Session → Import → Result Session Misplaced
import_into peer s rule = do
  _ ← unless Order (same_kind s.peer peer && length s.exports == 0)
  _ ← unless Order (ascends import_key s.imports (import_key rule))
  Ok (record s { imports = s.imports ++ rule ∷ [] })

-- exports ascend
unfoldable pub export_into : Session → Export → Result Session Misplaced
export_into s export = do
  _ ← unless Order (ascends export_key s.exports (export_key export))
  Ok (record s { exports = s.exports ++ export ∷ [] })

-- a neighbour's block has entries alone
abbrev pub entry_into : Session → Line → Result Session Misplaced
entry_into s (line.Import rule) = import_into false s rule
entry_into s (line.PeerImport rule) = import_into true s rule
entry_into s (line.Export export) = export_into s export
entry_into s _ = Err Order

-- into the neighbour's block that is open
unfoldable pub in_neighbour : OpenRouter → Line → Result OpenRouter Misplaced
in_neighbour now l = do
  s ← or_fault Order now.block
  s ← entry_into s l
  Ok (record { router = now.router; names = now.names; block = Some s })

-- a router's block goes on: with a route of its own, with a neighbour, or in a neighbour's block
abbrev pub inside : OpenRouter → Line → Result OpenRouter Misplaced
inside now (line.Origination own) = own_into now own
inside now (line.Session name asn) = neighbour_into false now name asn
inside now (line.Peer name asn) = neighbour_into true now name asn
inside now l = in_neighbour now l

-- into the router's block that is open
unfoldable pub in_router : Reading → Line → Result Reading Misplaced
in_router r l = do
  now ← or_fault Order r.opened
  now ← inside now l
  Ok (record { classes = r.classes; routers = r.routers; opened = Some now })

-- the router's block that is open ends
unfoldable pub with_end : Reading → Result Reading Misplaced
with_end r = do
  now ← or_fault Order r.opened
  Ok (record { classes = r.classes; routers = r.routers ++ closed now.router now.block ∷ []; opened = None })

-- what was read so far with one more line, or why the line can't follow
abbrev pub after : Reading → Line → Result Reading Misplaced
after r (line.Class number patterns) = with_class r number patterns
after r (line.Router name asn id) = with_router r name asn id
after r line.End = with_end r
after r l = in_router r l
