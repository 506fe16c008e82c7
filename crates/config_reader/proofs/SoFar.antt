-- The lines that were read so far.
use Rattle.std.proofs.Common.{◌≡◌, ℕ, ◌+◌, List, [], ◌∷◌, ◌++◌, length, map, Bool, true, false, Option, Some, None, Ok, refl, sym, ◌∙◌, ap, ap₂, arith, append-nil, append_assoc}
use Rattle.std.specs.Prelude.{◌&&◌, ◌==◌, is_none}
use Rattle.std.specs.List.{flat_map}
use Rattle.std.proofs.lemmas.Bool.{and_parts, eqb-true}
use Rattle.std.proofs.lemmas.List.{map-append, nil_from_length}
use Rattle.std.proofs.lemmas.List.Concat.{flat_map-append}
use Rattle.list_law.proofs.Options.{is_none_parts}
use Rattle.net_base.specs.Prefixes.{PlainPattern}
use Rattle.config_base.specs.declared.config.RouterConfig.{RouterConfig}
use Rattle.config_base.specs.declared.config.Session.{Session}
use Rattle.config_base.specs.declared.config.Import.{Import}
use Rattle.config_base.specs.declared.config.Export.{Export}
use Rattle.config_base.specs.declared.config.Origination.{Origination}
use Rattle.config_lines.specs.declared.line.Line.{Line}
use Rattle.config_lines.specs.declared.line.Line.TheVariants as line
use Rattle.config_text.specs.ConfigLines.{lines_of_classes, head_of, import_of, lines_of_session, lines_before_end, lines_of_router}
use Rattle.config_reader.specs.declared.reading.OpenRouter.{OpenRouter}
use Rattle.config_reader.specs.declared.reading.Reading.{Reading}
use Rattle.config_reader.specs.Reading.{after, closed, is_next, same_kind}
use Rattle.config_reader.proofs.Lawful.{IsReading, open_good, kind_same}
use Rattle.config_reader.proofs.Steps.{class_ok, router_ok, own_ok, neighbour_ok, import_ok, export_ok, end_ok, with_open, router_with_own, new_session, with_session}
use Rattle.config_reader.proofs.Steps.{with_block, session_with_import, session_with_export}

-- those of the open router, without its end
abbrev pub open_lines : Option OpenRouter → List Line
open_lines None = []
open_lines (Some o) = lines_before_end (closed o.router o.block)

abbrev pub so_far : Reading → List Line
so_far r = lines_of_classes 1 r.classes ++ (flat_map lines_of_router r.routers ++ open_lines r.opened)

flat_push : {A B : Type 0} (f : A → List B) (xs : List A) (x : A) → flat_map f (xs ++ x ∷ []) ≡ flat_map f xs ++ f x
flat_push f xs x = flat_map-append f xs (x ∷ []) ∙ ap (λ t. flat_map f xs ++ t) (append-nil (f x))

classes_push : (k : ℕ) (cs : List (List PlainPattern)) (c : List PlainPattern) → lines_of_classes k (cs ++ c ∷ []) ≡ lines_of_classes k cs ++ line.Class (Some (length cs + k)) c ∷ []
classes_push k [] c = let same : k ≡ 0 + k = omega arith in ap (λ (n : ℕ). line.Class (Some n) c ∷ []) same
classes_push k (x ∷ cs) c =
    let same : length cs + (k + 1) ≡ length (x ∷ cs) + k = omega arith in
    ap (λ (ls : List Line). line.Class (Some k) x ∷ ls) (classes_push (k + 1) cs c ∙ ap (λ (n : ℕ). lines_of_classes (k + 1) cs ++ line.Class (Some n) c ∷ []) same)

-- what is read of the open router grows by a line, and so does the whole
module _ (r : Reading) (o q : OpenRouter) (at : r.opened ≡ Some o) where
  pub grown : (l : Line) → lines_before_end (closed q.router q.block) ≡ lines_before_end (closed o.router o.block) ++ l ∷ [] → so_far (with_open r q) ≡ so_far r ++ l ∷ []
  grown l e =
      let cs : List Line = lines_of_classes 1 r.classes in
      let rs : List Line = flat_map lines_of_router r.routers in
      ap (λ (t : List Line). cs ++ (rs ++ t)) e
      ∙ ap (λ (t : List Line). cs ++ t) (sym (append_assoc rs (lines_before_end (closed o.router o.block)) (l ∷ [])))
      ∙ sym (append_assoc cs (rs ++ lines_before_end (closed o.router o.block)) (l ∷ []))
      ∙ ap (λ (x : Option OpenRouter). (cs ++ (rs ++ open_lines x)) ++ l ∷ []) (sym at)

-- a router's block with one session more, which has one line
session_line_more : (r : RouterConfig) (s : Session) (l : Line) → lines_of_session s ≡ l ∷ []
    → lines_before_end (closed r (Some s)) ≡ lines_before_end r ++ l ∷ []
session_line_more r s l e =
    let owns : List Line = map line.Origination r.own in
    ap (λ (t : List Line). line.Router r.name r.asn r.id ∷ (owns ++ t)) (flat_push lines_of_session r.sessions s ∙ ap (λ (t : List Line). flat_map lines_of_session r.sessions ++ t) e)
    ∙ ap (λ (t : List Line). line.Router r.name r.asn r.id ∷ t) (sym (append_assoc owns (flat_map lines_of_session r.sessions) (l ∷ [])))

-- a router's block whose last session has one line more
session_grown : (r : RouterConfig) (b c : Session) (l : Line) → lines_of_session c ≡ lines_of_session b ++ l ∷ []
    → lines_before_end (closed r (Some c)) ≡ lines_before_end (closed r (Some b)) ++ l ∷ []
session_grown r b c l e =
    let owns : List Line = map line.Origination r.own in
    let before : List Line = flat_map lines_of_session r.sessions in
    let inner : flat_map lines_of_session (r.sessions ++ c ∷ []) ≡ flat_map lines_of_session (r.sessions ++ b ∷ []) ++ l ∷ [] =
    flat_push lines_of_session r.sessions c ∙ ap (λ (t : List Line). before ++ t) e ∙ sym (append_assoc before (lines_of_session b) (l ∷ []))
    ∙ ap (λ (t : List Line). t ++ l ∷ []) (sym (flat_push lines_of_session r.sessions b)) in
    ap (λ (t : List Line). line.Router r.name r.asn r.id ∷ (owns ++ t)) inner
    ∙ ap (λ (t : List Line). line.Router r.name r.asn r.id ∷ t) (sym (append_assoc owns (flat_map lines_of_session (r.sessions ++ b ∷ [])) (l ∷ [])))

pub next_is : (number : Option ℕ) (k : ℕ) → is_next number k ≡ true → number ≡ Some (k + 1)
next_is None k h = absurd cc
next_is (Some n) k h = ap Some (eqb-true n (k + 1) h)

class_adds : (r s : Reading) (number : Option ℕ) (patterns : List PlainPattern) → after r (line.Class number patterns) ≡ Ok s → so_far s ≡ so_far r ++ line.Class number patterns ∷ []
class_adds r s number patterns h =
    let k = class_ok r s number patterns h in
    let both = and_parts (is_none r.opened) (length r.routers == 0) k.0 in
    let none : r.opened ≡ None = is_none_parts r.opened both.0 in
    let empty : r.routers ≡ [] = nil_from_length r.routers (eqb-true (length r.routers) 0 both.1) in
    let rest : flat_map lines_of_router r.routers ++ open_lines r.opened ≡ [] = ap₂ (λ (rs : List RouterConfig) (x : Option OpenRouter). flat_map lines_of_router rs ++ open_lines x) empty none in
    ap so_far (sym k.2)
    ∙ ap (λ (t : List Line). lines_of_classes 1 (r.classes ++ patterns ∷ []) ++ t) rest ∙ append-nil (lines_of_classes 1 (r.classes ++ patterns ∷ []))
    ∙ classes_push 1 r.classes patterns
    ∙ ap (λ (n : Option ℕ). lines_of_classes 1 r.classes ++ line.Class n patterns ∷ []) (sym (next_is number (length r.classes) k.1))
    ∙ ap (λ (t : List Line). t ++ line.Class number patterns ∷ []) (sym (ap (λ (t : List Line). lines_of_classes 1 r.classes ++ t) rest ∙ append-nil (lines_of_classes 1 r.classes)))

router_adds : (r s : Reading) (name : List ℕ) (asn id : ℕ) → after r (line.Router name asn id) ≡ Ok s → so_far s ≡ so_far r ++ line.Router name asn id ∷ []
router_adds r s name asn id h =
    let k = router_ok r s name asn id h in
    let none : r.opened ≡ None = is_none_parts r.opened k.0 in
    let cs : List Line = lines_of_classes 1 r.classes in
    let rs : List Line = flat_map lines_of_router r.routers in
    ap so_far (sym k.2)
    ∙ sym (append_assoc cs rs (line.Router name asn id ∷ []))
    ∙ ap (λ (t : List Line). (cs ++ t) ++ line.Router name asn id ∷ []) (sym (append-nil rs) ∙ ap (λ (x : Option OpenRouter). rs ++ open_lines x) (sym none))

own_adds : (r s : Reading) (own : Origination) → (o : OpenRouter) → r.opened ≡ Some o → o.router.sessions ≡ [] → o.block ≡ None
    → with_open r (router_with_own o own) ≡ s → so_far s ≡ so_far r ++ line.Origination own ∷ []
own_adds r s own o at alone none made =
    ap so_far (sym made) ∙ grown r o (router_with_own o own) at (line.Origination own)
    (ap (λ (b : Option Session). lines_before_end (closed (router_with_own o own).router b)) none
    ∙ lines
    ∙ ap (λ (b : Option Session). lines_before_end (closed o.router b) ++ line.Origination own ∷ []) (sym none))
  where
    lines : lines_before_end (router_with_own o own).router ≡ lines_before_end o.router ++ line.Origination own ∷ []
    lines =
        let first : Line = line.Router o.router.name o.router.asn o.router.id in
        let owns : List Line = map line.Origination o.router.own in
        ap (λ (ss : List Session). first ∷ (map line.Origination (o.router.own ++ own ∷ []) ++ flat_map lines_of_session ss)) alone
        ∙ ap (λ (t : List Line). first ∷ t) (append-nil (map line.Origination (o.router.own ++ own ∷ [])) ∙ map-append line.Origination o.router.own (own ∷ []))
        ∙ ap (λ (t : List Line). first ∷ (t ++ line.Origination own ∷ [])) (sym (append-nil owns) ∙ ap (λ (ss : List Session). owns ++ flat_map lines_of_session ss) (sym alone))

neighbour_adds : (peer : Bool) (r s : Reading) (name : List ℕ) (asn : ℕ) (l : Line) → head_of (new_session name asn peer) ≡ l → (o : OpenRouter)
    → r.opened ≡ Some o → with_open r (with_session o peer name asn) ≡ s → so_far s ≡ so_far r ++ l ∷ []
neighbour_adds peer r s name asn l e o at made =
    ap so_far (sym made) ∙ grown r o (with_session o peer name asn) at l (session_line_more (closed o.router o.block) (new_session name asn peer) l (ap (λ (x : Line). x ∷ []) e))

block_adds : (r s : Reading) (l : Line) (o : OpenRouter) (b c : Session) → r.opened ≡ Some o → o.block ≡ Some b → with_open r (with_block o c) ≡ s
    → lines_of_session c ≡ lines_of_session b ++ l ∷ [] → so_far s ≡ so_far r ++ l ∷ []
block_adds r s l o b c at held made e =
    ap so_far (sym made) ∙ grown r o (with_block o c) at l (session_grown o.router b c l e ∙ ap (λ (x : Option Session). lines_before_end (closed o.router x) ++ l ∷ []) (sym held))

import_lines : (b : Session) (rule : Import) (l : Line) → import_of b.peer rule ≡ l → b.exports ≡ [] → lines_of_session (session_with_import b rule) ≡ lines_of_session b ++ l ∷ []
import_lines b rule l e none =
    let is : List Line = map (import_of b.peer) b.imports in
    ap (λ (es : List Export). head_of b ∷ (map (import_of b.peer) (b.imports ++ rule ∷ []) ++ map line.Export es)) none
    ∙ ap (λ (t : List Line). head_of b ∷ t) (append-nil (map (import_of b.peer) (b.imports ++ rule ∷ [])) ∙ map-append (import_of b.peer) b.imports (rule ∷ []) ∙ ap (λ (x : Line). is ++ x ∷ []) e)
    ∙ ap (λ (t : List Line). head_of b ∷ (t ++ l ∷ [])) (sym (append-nil is) ∙ ap (λ (es : List Export). is ++ map line.Export es) (sym none))

export_lines : (b : Session) (export : Export) → lines_of_session (session_with_export b export) ≡ lines_of_session b ++ line.Export export ∷ []
export_lines b export =
    let is : List Line = map (import_of b.peer) b.imports in
    ap (λ (t : List Line). head_of b ∷ (is ++ t)) (map-append line.Export b.exports (export ∷ []))
    ∙ ap (λ (t : List Line). head_of b ∷ t) (sym (append_assoc is (map line.Export b.exports) (line.Export export ∷ [])))

import_adds : (peer : Bool) (r s : Reading) (rule : Import) (l : Line) → import_of peer rule ≡ l → (o : OpenRouter) (b : Session) → r.opened ≡ Some o
    → o.block ≡ Some b → (same_kind b.peer peer && length b.exports == 0) ≡ true → with_open r (with_block o (session_with_import b rule)) ≡ s
    → so_far s ≡ so_far r ++ l ∷ []
import_adds peer r s rule l e o b at held both made =
    let k = and_parts (same_kind b.peer peer) (length b.exports == 0) both in
    block_adds r s l o b (session_with_import b rule) at held made
    (import_lines b rule l (ap (λ (p : Bool). import_of p rule) (kind_same b.peer peer k.0) ∙ e) (nil_from_length b.exports (eqb-true (length b.exports) 0 k.1)))

end_adds : (r s : Reading) → after r line.End ≡ Ok s → so_far s ≡ so_far r ++ line.End ∷ []
end_adds r s h =
    let k = end_ok r s h in
    let o : OpenRouter = k.0 in
    let cs : List Line = lines_of_classes 1 r.classes in
    let rs : List Line = flat_map lines_of_router r.routers in
    let now : List Line = lines_before_end (closed o.router o.block) in
    ap so_far (sym k.2)
    ∙ ap (λ (t : List Line). cs ++ t)
    (append-nil (flat_map lines_of_router (r.routers ++ closed o.router o.block ∷ [])) ∙ flat_push lines_of_router r.routers (closed o.router o.block) ∙ sym (append_assoc rs now (line.End ∷ [])))
    ∙ sym (append_assoc cs (rs ++ now) (line.End ∷ []))
    ∙ ap (λ (x : Option OpenRouter). (cs ++ (rs ++ open_lines x)) ++ line.End ∷ []) (sym k.1)

-- a line more was read
pub after_adds : (r s : Reading) (l : Line) → IsReading r → after r l ≡ Ok s → so_far s ≡ so_far r ++ l ∷ []
after_adds r s (line.Class number patterns) is h = class_adds r s number patterns h
after_adds r s (line.Router name asn id) is h = router_adds r s name asn id h
after_adds r s (line.Origination own) is h =
    let m = own_ok r s own h in
    let none = is_none_parts m.0.block (and_parts (is_none m.0.block) _ m.2).0 in
    own_adds r s own m.0 m.1 ((open_good r m.0 is m.1).1.1 none) none m.3
after_adds r s (line.Session name asn) is h = let m = neighbour_ok false r s name asn h in neighbour_adds false r s name asn (line.Session name asn) refl m.0 m.1 m.3
after_adds r s (line.Peer name asn) is h = let m = neighbour_ok true r s name asn h in neighbour_adds true r s name asn (line.Peer name asn) refl m.0 m.1 m.3
after_adds r s (line.Import rule) is h = let m = import_ok false r s rule h in import_adds false r s rule (line.Import rule) refl m.0 m.1 m.2 m.3 m.4 m.6
after_adds r s (line.PeerImport rule) is h = let m = import_ok true r s rule h in import_adds true r s rule (line.PeerImport rule) refl m.0 m.1 m.2 m.3 m.4 m.6
after_adds r s (line.Export export) is h = let m = export_ok r s export h in block_adds r s (line.Export export) m.0 m.1 (session_with_export m.1 export) m.2 m.3 m.5 (export_lines m.1 export)
after_adds r s line.End is h = end_adds r s h
