-- What was read with one line more.
use Rattle.std.proofs.Common.{◌≡◌, ℕ, ◌+◌, ◌≤◌, List, [], ◌∷◌, ◌++◌, length, Bool, true, false, Option, Some, None, Result, Ok, Err, refl, sym, ◌∙◌, ap, arith, length-append}
use Rattle.std.specs.Prelude.{◌&&◌, ◌==◌, not, is_none}
use Rattle.std.specs.List.{list_any}
use Rattle.std.specs.Str.{bytes_eq}
use Rattle.std.proofs.lemmas.Bool.{and_parts}
use Rattle.net_base.specs.Prefixes.{PlainPattern}
use Rattle.net_base.specs.Steps.{or_fault, unless}
use Rattle.net_base.proofs.StepLemmas.{bind_ok, unless_ok, or_fault_ok, ok_same}
use Rattle.config_base.specs.Configs.{origination_key}
use Rattle.config_base.specs.declared.config.RouterConfig.{RouterConfig}
use Rattle.config_base.specs.declared.config.Session.{Session}
use Rattle.config_base.specs.declared.config.Import.{Import}
use Rattle.config_base.specs.declared.config.Export.{Export}
use Rattle.config_base.specs.declared.config.Origination.{Origination}
use Rattle.config_lines.specs.declared.edition.Edition.{Edition}
use Rattle.config_lines.specs.declared.line.Line.{Line}
use Rattle.config_lines.specs.declared.line.Line.TheVariants as line
use Rattle.config_lines.specs.declared.line.LineFault.{LineFault}
use Rattle.config_lines.specs.declared.line.LineFault.TheVariants as linefault
use Rattle.config_lines.specs.Lines.{line_of}
use Rattle.config_text.specs.ConfigLines.{head_of, import_of}
use Rattle.config_reader.specs.Order.{ascends, import_key, export_key}
use Rattle.config_reader.specs.declared.reading.OpenRouter.{OpenRouter}
use Rattle.config_reader.specs.declared.reading.Reading.{Reading}
use Rattle.config_reader.specs.declared.reading.Misplaced.{Misplaced}
use Rattle.config_reader.specs.declared.reading.Misplaced.TheVariants as misplaced
use Rattle.config_reader.specs.Reading.{takes_class, with_class, takes_router, with_router, own_into, neighbour_into, import_into, export_into, entry_into, in_neighbour, inside, in_router}
use Rattle.config_reader.specs.Reading.{with_end, after, is_next, stood_before, closed, same_kind}
use Rattle.config_reader.specs.Text.{read_at, placed_at, with_line}

pub read_at_ok : (n : ℕ) (r : Result Line LineFault) (l : Line) → read_at n r ≡ Ok l → r ≡ Ok l
read_at_ok n (Ok m) l h = ap Ok (ok_same m l h)
read_at_ok n (Err linefault.Form) l h = absurd cc
read_at_ok n (Err linefault.Number) l h = absurd cc
read_at_ok n (Err linefault.NoMemory) l h = absurd cc

pub placed_at_ok : (n : ℕ) (r : Result Reading Misplaced) (s : Reading) → placed_at n r ≡ Ok s → r ≡ Ok s
placed_at_ok n (Ok q) s h = ap Ok (ok_same q s h)
placed_at_ok n (Err misplaced.Order) s h = absurd cc
placed_at_ok n (Err misplaced.Twice) s h = absurd cc
placed_at_ok n (Err misplaced.NoMemory) s h = absurd cc

-- the line that was read, and what it made
pub with_line_ok : (edition : Edition) (n : ℕ) (r s : Reading) (bytes : List ℕ) → with_line edition n r bytes ≡ Ok s
    → (l : Line) × (line_of edition bytes (length r.classes) ≡ Ok l) × (after r l ≡ Ok s)
unfolding with_line
with_line_ok edition n r s bytes h =
    let l = bind_ok (read_at n (line_of edition bytes (length r.classes))) _ s h in
    (l.0, read_at_ok n _ l.0 l.1, placed_at_ok n _ s l.2)

-- ---- what each line wanted, and what it made

pub class_ok : (r s : Reading) (number : Option ℕ) (patterns : List PlainPattern) → with_class r number patterns ≡ Ok s
    → ((is_none r.opened && length r.routers == 0) ≡ true) × (is_next number (length r.classes) ≡ true)
    × ((let q : Reading = record { classes = r.classes ++ patterns ∷ []; routers = r.routers; opened = r.opened } in q) ≡ s)
unfolding with_class
class_ok r s number patterns h =
    let a = bind_ok (unless misplaced.Order (takes_class r number)) _ s h in
    let both = and_parts (is_none r.opened && length r.routers == 0) (is_next number (length r.classes)) (unless_ok misplaced.Order (takes_class r number) a.0 a.1) in
    (both.0, both.1, ok_same _ s a.2)

abbrev pub new_router : List ℕ → ℕ → ℕ → RouterConfig
new_router name asn id = record { name = name; asn = asn; id = id; own = []; sessions = [] }

abbrev pub with_open : Reading → OpenRouter → Reading
with_open r o = record { classes = r.classes; routers = r.routers; opened = Some o }

pub router_ok : (r s : Reading) (name : List ℕ) (asn id : ℕ) → with_router r name asn id ≡ Ok s
    → (is_none r.opened ≡ true) × (not (stood_before name asn id r.routers) ≡ true) × (with_open r (record { router = new_router name asn id; names = []; block = None }) ≡ s)
unfolding with_router
router_ok r s name asn id h =
    let a = bind_ok (takes_router r name asn id) _ s h in
    let b = bind_ok (unless misplaced.Order (is_none r.opened)) _ a.0 a.1 in
    (unless_ok misplaced.Order _ b.0 b.1, unless_ok misplaced.Twice _ a.0 b.2, ok_same _ s a.2)

-- the router's block that was open, and what the line made of it
inside_ok : (r s : Reading) (l : Line) → in_router r l ≡ Ok s → (o q : OpenRouter) × (r.opened ≡ Some o) × (inside o l ≡ Ok q) × (with_open r q ≡ s)
unfolding in_router
inside_ok r s l h =
    let a = bind_ok (or_fault misplaced.Order r.opened) _ s h in
    let q = bind_ok (inside a.0 l) _ s a.2 in
    (a.0, q.0, or_fault_ok misplaced.Order r.opened a.0 a.1, q.1, ok_same _ s q.2)

abbrev pub router_with_own : OpenRouter → Origination → OpenRouter
router_with_own o own =
    record {
      router = record
          { name = o.router.name; asn = o.router.asn; id = o.router.id; own = o.router.own ++ own ∷ []; sessions = o.router.sessions };
      names = o.names;
      block = o.block;
    }

pub own_ok : (r s : Reading) (own : Origination) → in_router r (line.Origination own) ≡ Ok s
    → (o : OpenRouter) × (r.opened ≡ Some o) × ((is_none o.block && ascends origination_key o.router.own (origination_key own)) ≡ true) × (with_open r (router_with_own o own) ≡ s)
unfolding own_into
own_ok r s own h =
    let k = inside_ok r s (line.Origination own) h in
    let b = bind_ok (unless misplaced.Order (is_none k.0.block && ascends origination_key k.0.router.own (origination_key own))) _ k.1 k.3 in
    (k.0, k.2, unless_ok misplaced.Order _ b.0 b.1, ap (with_open r) (ok_same _ k.1 b.2) ∙ k.4)

abbrev pub new_session : List ℕ → ℕ → Bool → Session
new_session name asn peer = record { name = name; asn = asn; peer = peer; imports = []; exports = [] }

abbrev pub with_session : OpenRouter → Bool → List ℕ → ℕ → OpenRouter
with_session o peer name asn = record { router = closed o.router o.block; names = o.names ++ name ∷ []; block = Some (new_session name asn peer) }

pub neighbour_ok : (peer : Bool) (r s : Reading) (name : List ℕ) (asn : ℕ) → in_router r (head_of (new_session name asn peer)) ≡ Ok s
    → (o : OpenRouter) × (r.opened ≡ Some o) × (not (list_any (bytes_eq name) o.names) ≡ true) × (with_open r (with_session o peer name asn) ≡ s)
unfolding neighbour_into
neighbour_ok peer r s name asn h =
    let k = inside_ok r s (head_of (new_session name asn peer)) h in
    let b = bind_ok (unless misplaced.Twice (not (list_any (bytes_eq name) k.0.names))) _ k.1 (sym (of_kind peer k.0) ∙ k.3) in
    (k.0, k.2, unless_ok misplaced.Twice _ b.0 b.1, ap (with_open r) (ok_same _ k.1 b.2) ∙ k.4)
  where
    of_kind : (b : Bool) (o : OpenRouter) → inside o (head_of (new_session name asn b)) ≡ neighbour_into b o name asn
    of_kind true o = refl
    of_kind false o = refl

abbrev pub with_block : OpenRouter → Session → OpenRouter
with_block o b = record { router = o.router; names = o.names; block = Some b }

-- the neighbour's block that was open, and what the line made of it
entry_ok : (o q : OpenRouter) (l : Line) → in_neighbour o l ≡ Ok q → (b c : Session) × (o.block ≡ Some b) × (entry_into b l ≡ Ok c) × (with_block o c ≡ q)
unfolding in_neighbour
entry_ok o q l h =
    let b = bind_ok (or_fault misplaced.Order o.block) _ q h in
    let c = bind_ok (entry_into b.0 l) _ q b.2 in
    (b.0, c.0, or_fault_ok misplaced.Order o.block b.0 b.1, c.1, ok_same _ q c.2)

abbrev pub session_with_import : Session → Import → Session
session_with_import b rule = record { name = b.name; asn = b.asn; peer = b.peer; imports = b.imports ++ rule ∷ []; exports = b.exports }

pub import_ok : (peer : Bool) (r s : Reading) (rule : Import) → in_router r (import_of peer rule) ≡ Ok s
    → (o : OpenRouter) × (b : Session) × (r.opened ≡ Some o) × (o.block ≡ Some b) × ((same_kind b.peer peer && length b.exports == 0) ≡ true)
    × (ascends import_key b.imports (import_key rule) ≡ true) × (with_open r (with_block o (session_with_import b rule)) ≡ s)
unfolding import_into
import_ok peer r s rule h =
    let k = inside_ok r s (import_of peer rule) h in
    let m = entry_ok k.0 k.1 (import_of peer rule) (sym (of_kind peer k.0) ∙ k.3) in
    let d = bind_ok (unless misplaced.Order (same_kind m.0.peer peer && length m.0.exports == 0)) _ m.1 (sym (of_block peer m.0) ∙ m.3) in
    let e = bind_ok (unless misplaced.Order (ascends import_key m.0.imports (import_key rule))) _ m.1 d.2 in
    let made : session_with_import m.0 rule ≡ m.1 = ok_same _ m.1 e.2 in
    (k.0, m.0, k.2, m.2, unless_ok misplaced.Order _ d.0 d.1, unless_ok misplaced.Order _ e.0 e.1, ap (with_open r) (ap (with_block k.0) made ∙ m.4) ∙ k.4)
  where
    of_kind : (b : Bool) (o : OpenRouter) → inside o (import_of b rule) ≡ in_neighbour o (import_of b rule)
    of_kind true o = refl
    of_kind false o = refl

    of_block : (b : Bool) (c : Session) → entry_into c (import_of b rule) ≡ import_into b c rule
    of_block true c = refl
    of_block false c = refl

abbrev pub session_with_export : Session → Export → Session
session_with_export b export = record { name = b.name; asn = b.asn; peer = b.peer; imports = b.imports; exports = b.exports ++ export ∷ [] }

pub export_ok : (r s : Reading) (export : Export) → in_router r (line.Export export) ≡ Ok s
    → (o : OpenRouter) × (b : Session) × (r.opened ≡ Some o) × (o.block ≡ Some b) × (ascends export_key b.exports (export_key export) ≡ true)
    × (with_open r (with_block o (session_with_export b export)) ≡ s)
unfolding export_into
export_ok r s export h =
    let k = inside_ok r s (line.Export export) h in
    let m = entry_ok k.0 k.1 (line.Export export) k.3 in
    let e = bind_ok (unless misplaced.Order (ascends export_key m.0.exports (export_key export))) _ m.1 m.3 in
    let made : session_with_export m.0 export ≡ m.1 = ok_same _ m.1 e.2 in
    (k.0, m.0, k.2, m.2, unless_ok misplaced.Order _ e.0 e.1, ap (with_open r) (ap (with_block k.0) made ∙ m.4) ∙ k.4)

pub end_ok : (r s : Reading) → with_end r ≡ Ok s
    → (o : OpenRouter) × (r.opened ≡ Some o) × ((let q : Reading = record { classes = r.classes; routers = r.routers ++ closed o.router o.block ∷ []; opened = None } in q) ≡ s)
unfolding with_end
end_ok r s h =
    let a = bind_ok (or_fault misplaced.Order r.opened) _ s h in
    (a.0, or_fault_ok misplaced.Order r.opened a.0 a.1, ok_same _ s a.2)

-- ---- no class less, and at most one more

abbrev pub OneMore : Reading → Reading → Type 0
OneMore r s = (length r.classes ≤ length s.classes) × (length s.classes ≤ length r.classes + 1)

same_count : (r s q : Reading) → q.classes ≡ r.classes → q ≡ s → OneMore r s
same_count r s q er es = rw (← es, er) (omega arith, omega arith)

pub after-classes : (r s : Reading) (l : Line) → after r l ≡ Ok s → OneMore r s
after-classes r s (line.Class number patterns) h =
    let k = class_ok r s number patterns h in
    rw (← k.2, length-append r.classes (patterns ∷ [])) (omega arith, omega arith)
after-classes r s (line.Router name asn id) h = same_count r s _ refl (router_ok r s name asn id h).2
after-classes r s (line.Origination own) h = same_count r s _ refl (own_ok r s own h).3
after-classes r s (line.Session name asn) h = same_count r s _ refl (neighbour_ok false r s name asn h).3
after-classes r s (line.Peer name asn) h = same_count r s _ refl (neighbour_ok true r s name asn h).3
after-classes r s (line.Import rule) h = same_count r s _ refl (import_ok false r s rule h).6
after-classes r s (line.PeerImport rule) h = same_count r s _ refl (import_ok true r s rule h).6
after-classes r s (line.Export export) h = same_count r s _ refl (export_ok r s export h).5
after-classes r s line.End h = same_count r s _ refl (end_ok r s h).2

pub with_line-classes : (edition : Edition) (n : ℕ) (r s : Reading) (bytes : List ℕ) → with_line edition n r bytes ≡ Ok s → OneMore r s
with_line-classes edition n r s bytes h = let l = with_line_ok edition n r s bytes h in after-classes r s l.0 l.2
