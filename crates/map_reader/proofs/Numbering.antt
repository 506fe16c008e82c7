-- Entries are numbered within their blocks, as they come.
use Rattle.std.proofs.Common.{◌≡◌, ℕ, ◌+◌, ◌*◌, List, [], ◌∷◌, ◌++◌, length, map, Bool, true, false, Option, Some, Ok, refl, sym, ◌∙◌, ap, ap₂, arith, length-append}
use Rattle.std.specs.Prelude.{option_and_then, if◌then◌else◌, is_none}
use Rattle.std.specs.List.{flat_map}
use Rattle.std.proofs.lemmas.Bool.{and_parts}
use Rattle.list_law.proofs.Options.{is_none_parts}
use Rattle.config_base.specs.declared.config.RouterConfig.{RouterConfig}
use Rattle.config_base.specs.declared.config.Session.{Session}
use Rattle.config_base.specs.declared.config.Import.{Import}
use Rattle.config_base.specs.declared.config.Export.{Export}
use Rattle.config_base.specs.declared.config.Origination.{Origination}
use Rattle.config_lines.specs.declared.line.Line.{Line}
use Rattle.config_lines.specs.declared.line.Line.TheVariants as line
use Rattle.config_text.specs.ConfigLines.{head_of, import_of, lines_of_session, lines_before_end, lines_of_router}
use Rattle.config_reader.specs.declared.reading.OpenRouter.{OpenRouter}
use Rattle.config_reader.specs.declared.reading.Reading.{Reading}
use Rattle.config_reader.specs.Reading.{after}
use Rattle.config_reader.proofs.Steps.{router_ok, own_ok, neighbour_ok, import_ok, export_ok, end_ok}
use Rattle.config_reader.proofs.TakenTexts.{IsOther}
use Rattle.route_map_text.specs.declared.line.MapLine.{MapLine}
use Rattle.route_map_text.specs.declared.line.MapLine.TheVariants as written
use Rattle.route_map_text.specs.MapsLines.{numbered, network_of, lines_of_session as map_lines_of_session, lines_before_end as map_lines_before_end, lines_of_router as map_lines_of_router}
use Rattle.map_reader.specs.MapsReading.{entries_in, entries_of}

-- how many `in` and how many `out` entries the open block has
pub record Counts : Type 0 where
  pub ins : ℕ
  pub outs : ℕ

abbrev pub none : Counts
none = record { ins = 0; outs = 0 }

abbrev pub step : Counts → Line → Counts
step k (line.Import r) = record { ins = k.ins + 1; outs = k.outs }
step k (line.PeerImport r) = record { ins = k.ins + 1; outs = k.outs }
step k (line.Export e) = record { ins = k.ins; outs = k.outs + 1 }
step k _ = none

abbrev pub number_line : Counts → Line → MapLine
number_line k (line.Import r) = written.Entry (Some (10 * (k.ins + 1))) (line.Import r)
number_line k (line.PeerImport r) = written.Entry (Some (10 * (k.ins + 1))) (line.PeerImport r)
number_line k (line.Export e) = written.Entry (Some (10 * (k.outs + 1))) (line.Export e)
number_line k l = written.Block l

abbrev pub steps : Counts → List Line → Counts
steps k [] = k
steps k (l ∷ ls) = steps (step k l) ls

abbrev pub number_from : Counts → List Line → List MapLine
number_from k [] = []
number_from k (l ∷ ls) = number_line k l ∷ number_from (step k l) ls

pub steps-append : (k : Counts) (xs ys : List Line) → steps k (xs ++ ys) ≡ steps (steps k xs) ys
steps-append k [] ys = refl
steps-append k (x ∷ xs) ys = steps-append (step k x) xs ys

pub number_from-append : (k : Counts) (xs ys : List Line) → number_from k (xs ++ ys) ≡ number_from k xs ++ number_from (steps k xs) ys
number_from-append k [] ys = refl
number_from-append k (x ∷ xs) ys = ap (λ (ls : List MapLine). number_line k x ∷ ls) (number_from-append (step k x) xs ys)

-- ---- the blocks of routers

import_numbered : (b : Bool) (k : Counts) (r : Import) → (number_line k (import_of b r) ≡ written.Entry (Some (10 * (k.ins + 1))) (import_of b r))
    × (step k (import_of b r) ≡ record { ins = k.ins + 1; outs = k.outs })
import_numbered true k r = (refl, refl)
import_numbered false k r = (refl, refl)

ins_numbered : (b : Bool) (i o : ℕ) (rules : List Import) → (number_from (record { ins = i; outs = o }) (map (import_of b) rules) ≡ numbered (10 * (i + 1)) (map (import_of b) rules))
    × (steps (record { ins = i; outs = o }) (map (import_of b) rules) ≡ record { ins = i + length rules; outs = o })
ins_numbered b i o [] = (refl, let e : i ≡ i + 0 = omega arith in ap (λ n. let k : Counts = record { ins = n; outs = o } in k) e)
ins_numbered b i o (r ∷ rules) =
    let here = import_numbered b (record { ins = i; outs = o }) r in
    let later = ins_numbered b (i + 1) o rules in
    let e : 10 * (i + 1 + 1) ≡ 10 * (i + 1) + 10 = omega arith in
    let c : i + 1 + length rules ≡ i + length (r ∷ rules) = omega arith in (
      ap₂ (λ (l : MapLine) (k : Counts). l ∷ number_from k (map (import_of b) rules)) here.0 here.1
          ∙ ap (λ (ls : List MapLine). written.Entry (Some (10 * (i + 1))) (import_of b r) ∷ ls) (later.0 ∙ ap (λ n. numbered n (map (import_of b) rules)) e),
      ap (λ (k : Counts). steps k (map (import_of b) rules)) here.1 ∙ later.1 ∙ ap (λ n. let k : Counts = record { ins = n; outs = o } in k) c,
    )

outs_numbered : (i o : ℕ) (exports : List Export) → number_from (record { ins = i; outs = o }) (map line.Export exports) ≡ numbered (10 * (o + 1)) (map line.Export exports)
outs_numbered i o [] = refl
outs_numbered i o (e ∷ exports) =
    let same : 10 * (o + 1 + 1) ≡ 10 * (o + 1) + 10 = omega arith in
    ap (λ (ls : List MapLine). written.Entry (Some (10 * (o + 1))) (line.Export e) ∷ ls) (outs_numbered i (o + 1) exports ∙ ap (λ n. numbered n (map line.Export exports)) same)

-- a head line begins anew
head_numbered : (k : Counts) (s : Session) → (number_line k (head_of s) ≡ written.Block (head_of s)) × (step k (head_of s) ≡ none)
head_numbered k s = by s.peer
  where
    by : (b : Bool)
        → (number_line k (if b then line.Peer s.name s.asn else line.Session s.name s.asn)
        ≡ written.Block (if b then line.Peer s.name s.asn else line.Session s.name s.asn))
        × (step k (if b then line.Peer s.name s.asn else line.Session s.name s.asn) ≡ none)
    by true = (refl, refl)
    by false = (refl, refl)

session_numbered : (k : Counts) (s : Session) → number_from k (lines_of_session s) ≡ map_lines_of_session s
session_numbered k s =
    let h = head_numbered k s in
    let ins = ins_numbered s.peer 0 0 s.imports in
    let entries : number_from none (map (import_of s.peer) s.imports ++ map line.Export s.exports) ≡ numbered 10 (map (import_of s.peer) s.imports) ++ numbered 10 (map line.Export s.exports) =
    number_from-append none (map (import_of s.peer) s.imports) (map line.Export s.exports)
    ∙ ap₂ (λ (xs ys : List MapLine). xs ++ ys) ins.0 (ap (λ (c : Counts). number_from c (map line.Export s.exports)) ins.1 ∙ outs_numbered (0 + length s.imports) 0 s.exports) in
    ap₂ (λ (x : MapLine) (c : Counts). x ∷ number_from c (map (import_of s.peer) s.imports ++ map line.Export s.exports)) h.0 h.1
    ∙ ap (λ (ls : List MapLine). written.Block (head_of s) ∷ ls) entries

sessions_numbered : (k : Counts) (ss : List Session) → number_from k (flat_map lines_of_session ss) ≡ flat_map map_lines_of_session ss
sessions_numbered k [] = refl
sessions_numbered k (s ∷ ss) =
    number_from-append k (lines_of_session s) (flat_map lines_of_session ss)
    ∙ ap₂ (λ (xs ys : List MapLine). xs ++ ys) (session_numbered k s) (sessions_numbered (steps k (lines_of_session s)) ss)

owns_numbered : (k : Counts) (owns : List Origination) → number_from k (map line.Origination owns) ≡ map network_of owns
owns_numbered k [] = refl
owns_numbered k (o ∷ owns) = ap (λ (ls : List MapLine). network_of o ∷ ls) (owns_numbered none owns)

pub before_end_numbered : (k : Counts) (r : RouterConfig) → number_from k (lines_before_end r) ≡ map_lines_before_end r
before_end_numbered k r =
    ap (λ (ls : List MapLine). written.Block (line.Router r.name r.asn r.id) ∷ ls)
    (number_from-append none (map line.Origination r.own) (flat_map lines_of_session r.sessions)
    ∙ ap₂ (λ (xs ys : List MapLine). xs ++ ys) (owns_numbered none r.own) (sessions_numbered (steps none (map line.Origination r.own)) r.sessions))

router_numbered : (k : Counts) (r : RouterConfig) → number_from k (lines_of_router r) ≡ map_lines_of_router r
router_numbered k r =
    number_from-append k (lines_before_end r) (line.End ∷ [])
    ∙ ap (λ (ls : List MapLine). ls ++ written.Block line.End ∷ []) (before_end_numbered k r)

pub routers_numbered : (k : Counts) (rs : List RouterConfig) → number_from k (flat_map lines_of_router rs) ≡ flat_map map_lines_of_router rs
routers_numbered k [] = refl
routers_numbered k (r ∷ rs) =
    number_from-append k (lines_of_router r) (flat_map lines_of_router rs)
    ∙ ap₂ (λ (xs ys : List MapLine). xs ++ ys) (router_numbered k r) (routers_numbered (steps k (lines_of_router r)) rs)

-- ---- what was read

abbrev pub counts : Reading → Counts
counts r = record { ins = entries_of false r; outs = entries_of true r }

abbrev counts_in : Option Session → Counts
counts_in b = record { ins = entries_in false b; outs = entries_in true b }

abbrev block_in : Option OpenRouter → Option Session
block_in o = option_and_then (λ (o : OpenRouter). o.block) o

counts_at : (r : Reading) (o : OpenRouter) (b : Option Session) → r.opened ≡ Some o → o.block ≡ b → counts r ≡ counts_in b
counts_at r o b at held = ap (λ (x : Option OpenRouter). counts_in (block_in x)) at ∙ ap counts_in held

one_longer : {A : Type 0} (xs : List A) (x : A) → length (xs ++ x ∷ []) ≡ length xs + 1
one_longer xs x = length-append xs (x ∷ [])

-- the entries are counted as the lines come
pub counts-after : (r s : Reading) (l : Line) → IsOther l → after r l ≡ Ok s → counts s ≡ step (counts r) l
counts-after r s (line.Class number patterns) is h = absurd is
counts-after r s (line.Router name asn id) is h = ap counts (sym (router_ok r s name asn id h).2)
counts-after r s (line.Origination own) is h =
    let m = own_ok r s own h in
    let empty = is_none_parts m.0.block (and_parts (is_none m.0.block) _ m.2).0 in
    ap counts (sym m.3) ∙ ap counts_in empty
counts-after r s (line.Session name asn) is h = ap counts (sym (neighbour_ok false r s name asn h).3)
counts-after r s (line.Peer name asn) is h = ap counts (sym (neighbour_ok true r s name asn h).3)
counts-after r s (line.Import rule) is h =
    let m = import_ok false r s rule h in
    ap counts (sym m.6) ∙ ap (λ n. let k : Counts = record { ins = n; outs = length m.1.exports } in k) (one_longer m.1.imports rule)
    ∙ ap (λ (k : Counts). step k (line.Import rule)) (sym (counts_at r m.0 (Some m.1) m.2 m.3))
counts-after r s (line.PeerImport rule) is h =
    let m = import_ok true r s rule h in
    ap counts (sym m.6) ∙ ap (λ n. let k : Counts = record { ins = n; outs = length m.1.exports } in k) (one_longer m.1.imports rule)
    ∙ ap (λ (k : Counts). step k (line.PeerImport rule)) (sym (counts_at r m.0 (Some m.1) m.2 m.3))
counts-after r s (line.Export export) is h =
    let m = export_ok r s export h in
    ap counts (sym m.5) ∙ ap (λ n. let k : Counts = record { ins = length m.1.imports; outs = n } in k) (one_longer m.1.exports export)
    ∙ ap (λ (k : Counts). step k (line.Export export)) (sym (counts_at r m.0 (Some m.1) m.2 m.3))
counts-after r s line.End is h = ap counts (sym (end_ok r s h).2)
