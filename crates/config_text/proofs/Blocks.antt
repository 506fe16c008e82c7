-- Each block at the front of a text is read in one way only.
use Rattle.std.proofs.Common.{◌≡◌, ℕ, ◌^◌, ◌<◌, List, [], ◌∷◌, ◌++◌, Bool, true, false, refl, sym, ap, subst, ◌∙◌, arith, append_assoc, append-nil, ap₂}
use Rattle.std.specs.Prelude.{◌&&◌, ◌||◌, not, IsTrue, codes, if◌then◌else◌}
use Rattle.std.specs.List.{flat_map, AllByRecursion}
use Rattle.std.specs.Fmt.{decimal}
use Rattle.std.proofs.lemmas.List.{append_cancel_left}
use Rattle.std.proofs.lemmas.Bool.{and_parts, not-true}
use Rattle.net_base.specs.NameRule.{is_name}
use Rattle.net_base.specs.Prefixes.{PlainPattern}
use Rattle.text_parts.specs.Texts.{address_text}
use Rattle.config_base.specs.declared.config.RouterConfig.{RouterConfig}
use Rattle.config_base.specs.declared.config.Session.{Session}
use Rattle.config_base.specs.declared.config.Import.{Import}
use Rattle.config_base.specs.declared.config.Export.{Export}
use Rattle.config_base.specs.declared.config.Origination.{Origination}
use Rattle.config_base.specs.Configs.{PlainConfig}
use Rattle.config_lines.specs.declared.edition.Edition.{Edition}
use Rattle.config_lines.specs.Editions.{first_line}
use Rattle.config_text.specs.ConfigText.{own_line, import_line, export_line, session_line, session_text, router_text, class_lines, text_in}
use Rattle.text_parts.proofs.Words.{number_cut, address_cut, after}
use Rattle.text_parts.proofs.Pieces.{name_cut}
use Rattle.config_text.proofs.Repeats.{list_cut, begins, any_text}
use Rattle.config_text.proofs.Classes.{IsFullClass, classes_cut}
use Rattle.config_text.proofs.Lines.{IsShortOrigination, owns_cut, IsShortImport, imports_cut, IsShortExport, begins_export, exports_cut}

-- ---- the block of a neighbour

pub record IsReadableSession (s : Session) : Type 0 where
  pub name : IsTrue (is_name s.name)
  pub asn : s.asn < 2 ^ 32
  pub imports : AllByRecursion (IsShortImport s.peer) s.imports
  pub exports : AllByRecursion IsShortExport s.exports

abbrev kind_word : Bool → List ℕ
kind_word b = if b then codes "peer " else codes "session "

kind_cut : (b c : Bool) (rest more : List ℕ) → kind_word b ++ rest ≡ kind_word c ++ more → (b ≡ c) × (rest ≡ more)
kind_cut true true rest more e = (refl, append_cancel_left (codes "peer ") rest more e)
kind_cut true false rest more e = let clash : true ≡ false = ap (begins 112) e in absurd (cc)
kind_cut false true rest more e = let clash : false ≡ true = ap (begins 112) e in absurd (cc)
kind_cut false false rest more e = (refl, append_cancel_left (codes "session ") rest more e)

head_parts : (s : Session) (rest : List ℕ) → session_line s ++ rest ≡ kind_word s.peer ++ (s.name ++ (32 ∷ (codes "asn " ++ (decimal s.asn ++ (10 ∷ rest)))))
head_parts s rest = parts_by (kind_word s.peer) s.name (decimal s.asn)
  where
    parts_by : (a b c : List ℕ) → (a ++ b ++ codes " asn " ++ c ++ codes "\n") ++ rest ≡ a ++ (b ++ (32 ∷ (codes "asn " ++ (c ++ (10 ∷ rest)))))
    parts_by a b c = simp append_assoc refl

head_cut : (s t : Session) (rest more : List ℕ) → IsReadableSession s → IsReadableSession t → session_line s ++ rest ≡ session_line t ++ more
    → (s.peer ≡ t.peer) × (s.name ≡ t.name) × (s.asn ≡ t.asn) × (rest ≡ more)
head_cut s t rest more hs ht e =
    let parts = sym (head_parts s rest) ∙ e ∙ head_parts t more in
    let a = kind_cut s.peer t.peer _ _ parts in
    let b = name_cut s.name t.name _ _ hs.name ht.name a.1 in
    let c = number_cut s.asn t.asn _ _ (omega (arith, hs.asn)) (omega (arith, ht.asn)) refl refl (append_cancel_left (codes "asn ") _ _ b.1) in
    (a.0, b.0, c.0, after 10 rest more c.1)

session_parts : (edition : Edition) (s : Session) (rest : List ℕ)
    → session_text edition s ++ rest
    ≡ session_line s ++ (flat_map (import_line edition s.peer) s.imports ++ (flat_map (export_line edition) s.exports ++ rest))
session_parts edition s rest = parts_by (session_line s) (flat_map (import_line edition s.peer) s.imports) (flat_map (export_line edition) s.exports)
  where
    parts_by : (a b c : List ℕ) → (a ++ b ++ c) ++ rest ≡ a ++ (b ++ (c ++ rest))
    parts_by a b c = simp append_assoc refl

-- the lists of a neighbour's lines end before this text
abbrev pub ends_session : List ℕ → Bool
ends_session bs = not (begins 105 bs) && not (begins_export bs)

exports_follow : (edition : Edition) (xs : List Export) (rest : List ℕ) → begins 105 rest ≡ false → begins 105 (flat_map (export_line edition) xs ++ rest) ≡ false
exports_follow edition [] rest h = h
exports_follow edition (x ∷ xs) rest h = refl

abbrev session_of : List ℕ → ℕ → Bool → List Import → List Export → Session
session_of name asn peer imports exports = record { name = name; asn = asn; peer = peer; imports = imports; exports = exports }

same_session : (s t : Session) → s.name ≡ t.name → s.asn ≡ t.asn → s.peer ≡ t.peer → s.imports ≡ t.imports → s.exports ≡ t.exports → s ≡ t
same_session s t i j k l m = let e : session_of s.name s.asn s.peer s.imports s.exports ≡ session_of t.name t.asn t.peer t.imports t.exports = cc in e

lists_cut : (edition : Edition) (peer : Bool) (s t : Session) (rest more : List ℕ) → s.peer ≡ peer → t.peer ≡ peer → IsReadableSession s
    → IsReadableSession t → ends_session rest ≡ true → ends_session more ≡ true
    → flat_map (import_line edition s.peer) s.imports ++ (flat_map (export_line edition) s.exports ++ rest)
    ≡ flat_map (import_line edition t.peer) t.imports ++ (flat_map (export_line edition) t.exports ++ more)
    → (s.imports ≡ t.imports) × (s.exports ≡ t.exports) × (rest ≡ more)
lists_cut edition peer s t rest more ps pt hs ht fr fm e =
    let r = and_parts (not (begins 105 rest)) (not (begins_export rest)) fr in
    let m = and_parts (not (begins 105 more)) (not (begins_export more)) fm in
    let is : AllByRecursion (IsShortImport peer) s.imports = subst (λ (p : Bool). AllByRecursion (IsShortImport p) s.imports) ps hs.imports in
    let it : AllByRecursion (IsShortImport peer) t.imports = subst (λ (p : Bool). AllByRecursion (IsShortImport p) t.imports) pt ht.imports in
    let e1 : flat_map (import_line edition peer) s.imports ++ (flat_map (export_line edition) s.exports ++ rest)
    ≡ flat_map (import_line edition peer) t.imports ++ (flat_map (export_line edition) t.exports ++ more) =
    ap (λ (p : Bool). flat_map (import_line edition p) s.imports ++ (flat_map (export_line edition) s.exports ++ rest)) (sym ps) ∙ e
    ∙ ap (λ (p : Bool). flat_map (import_line edition p) t.imports ++ (flat_map (export_line edition) t.exports ++ more)) pt in
    let a = imports_cut edition peer s.imports t.imports _ _ is it (exports_follow edition s.exports rest (not-true (begins 105 rest) r.0))
    (exports_follow edition t.exports more (not-true (begins 105 more) m.0)) e1 in
    let b = exports_cut edition s.exports t.exports rest more hs.exports ht.exports (not-true (begins_export rest) r.1) (not-true (begins_export more) m.1) a.1 in
    (a.0, b.0, b.1)

one_session : (edition : Edition) (s t : Session) (rest more : List ℕ) → IsReadableSession s → IsReadableSession t → ends_session rest ≡ true → ends_session more ≡ true
    → session_text edition s ++ rest ≡ session_text edition t ++ more → (s ≡ t) × (rest ≡ more)
one_session edition s t rest more hs ht fr fm e =
    let parts = sym (session_parts edition s rest) ∙ e ∙ session_parts edition t more in
    let h = head_cut s t _ _ hs ht parts in
    let l = lists_cut edition t.peer s t rest more h.0 refl hs ht fr fm h.3 in
    (same_session s t h.1 h.2 h.0 l.0 l.1, l.2)

-- a test of what a block begins with
session_front : (edition : Edition) (p : List ℕ → Bool) (v : Bool) → ((b : Bool) (t : List ℕ) → p (kind_word b ++ t) ≡ v) → (s : Session) (rest : List ℕ) → p (session_text edition s ++ rest) ≡ v
session_front edition p v front s rest =
    ap p (session_parts edition s rest
    ∙ head_parts s (flat_map (import_line edition s.peer) s.imports ++ (flat_map (export_line edition) s.exports ++ rest))) ∙ front s.peer _

abbrev pub begins_session : List ℕ → Bool
begins_session bs = begins 112 bs || begins 115 bs

kind_begins : (b : Bool) (t : List ℕ) → begins_session (kind_word b ++ t) ≡ true
kind_begins true t = refl
kind_begins false t = refl

kind_ends : (b : Bool) (t : List ℕ) → ends_session (kind_word b ++ t) ≡ true
kind_ends true t = refl
kind_ends false t = refl

kind_apart : (b : Bool) (t : List ℕ) → begins 111 (kind_word b ++ t) ≡ false
kind_apart true t = refl
kind_apart false t = refl

sessions_cut : (edition : Edition) (ss ts : List Session) (rest more : List ℕ) → AllByRecursion IsReadableSession ss → AllByRecursion IsReadableSession ts
    → flat_map (session_text edition) ss ++ (codes "end\n" ++ rest) ≡ flat_map (session_text edition) ts ++ (codes "end\n" ++ more) → (ss ≡ ts) × (rest ≡ more)
sessions_cut edition ss ts rest more hs ht e =
    let cut = list_cut Session (session_text edition) IsReadableSession begins_session ends_session
    (session_front edition begins_session true kind_begins) (session_front edition ends_session true kind_ends) (one_session edition)
    ss ts (codes "end\n" ++ rest) (codes "end\n" ++ more) hs ht refl refl refl refl e in
    (cut.0, append_cancel_left (codes "end\n") rest more cut.1)

sessions_follow : (edition : Edition) (ss : List Session) (rest : List ℕ) → begins 111 (flat_map (session_text edition) ss ++ (codes "end\n" ++ rest)) ≡ false
sessions_follow edition [] rest = refl
sessions_follow edition (s ∷ ss) rest =
    ap (begins 111) (append_assoc (session_text edition s) (flat_map (session_text edition) ss) (codes "end\n" ++ rest))
    ∙ session_front edition (begins 111) false kind_apart s (flat_map (session_text edition) ss ++ (codes "end\n" ++ rest))

-- ---- the block of a router

pub record IsReadableRouter (r : RouterConfig) : Type 0 where
  pub name : IsTrue (is_name r.name)
  pub asn : r.asn < 2 ^ 32
  pub id : r.id < 2 ^ 32
  pub own : AllByRecursion IsShortOrigination r.own
  pub sessions : AllByRecursion IsReadableSession r.sessions

-- what follows the head line
abbrev lists_text : Edition → RouterConfig → List ℕ → List ℕ
lists_text edition r rest = flat_map (own_line edition) r.own ++ (flat_map (session_text edition) r.sessions ++ (codes "end\n" ++ rest))

router_parts : (edition : Edition) (r : RouterConfig) (rest : List ℕ) → router_text edition r ++ rest
    ≡ codes "router " ++ (r.name ++ (32 ∷ (codes "asn " ++ (decimal r.asn ++ (codes " id " ++ (address_text r.id ++ (10 ∷ lists_text edition r rest)))))))
router_parts edition r rest = parts_by r.name (decimal r.asn) (address_text r.id) (flat_map (own_line edition) r.own) (flat_map (session_text edition) r.sessions)
  where
    parts_by : (a b c d f : List ℕ) → ((codes "router " ++ a ++ codes " asn " ++ b ++ codes " id " ++ c ++ codes "\n") ++ d ++ f ++ codes "end\n") ++ rest
        ≡ codes "router " ++ (a ++ (32 ∷ (codes "asn " ++ (b ++ (codes " id " ++ (c ++ (10 ∷ (d ++ (f ++ (codes "end\n" ++ rest))))))))))
    parts_by a b c d f = simp append_assoc refl

abbrev router_of : List ℕ → ℕ → ℕ → List Origination → List Session → RouterConfig
router_of name asn id own sessions = record { name = name; asn = asn; id = id; own = own; sessions = sessions }

same_router : (r q : RouterConfig) → r.name ≡ q.name → r.asn ≡ q.asn → r.id ≡ q.id → r.own ≡ q.own → r.sessions ≡ q.sessions → r ≡ q
same_router r q i j k l m = let e : router_of r.name r.asn r.id r.own r.sessions ≡ router_of q.name q.asn q.id q.own q.sessions = cc in e

one_router : (edition : Edition) (r q : RouterConfig) (rest more : List ℕ) → IsReadableRouter r → IsReadableRouter q → any_text rest ≡ true → any_text more ≡ true
    → router_text edition r ++ rest ≡ router_text edition q ++ more → (r ≡ q) × (rest ≡ more)
one_router edition r q rest more hr hq tr tm e =
    let parts = sym (router_parts edition r rest) ∙ e ∙ router_parts edition q more in
    let a = name_cut r.name q.name _ _ hr.name hq.name (append_cancel_left (codes "router ") _ _ parts) in
    let b = number_cut r.asn q.asn _ _ (omega (arith, hr.asn)) (omega (arith, hq.asn)) refl refl (append_cancel_left (codes "asn ") _ _ a.1) in
    let c = address_cut r.id q.id _ _ hr.id hq.id refl refl (append_cancel_left (codes " id ") _ _ b.1) in
    let d = owns_cut edition r.own q.own _ _ hr.own hq.own (sessions_follow edition r.sessions rest) (sessions_follow edition q.sessions more) (after 10 _ _ c.1) in
    let f = sessions_cut edition r.sessions q.sessions rest more hr.sessions hq.sessions d.1 in
    (same_router r q a.0 b.0 c.0 d.0 f.0, f.1)

-- ---- the whole text

pub record IsReadable (c : PlainConfig) : Type 0 where
  pub classes : AllByRecursion IsFullClass c.classes
  pub routers : AllByRecursion IsReadableRouter c.routers

routers_cut : (edition : Edition) (rs qs : List RouterConfig) → AllByRecursion IsReadableRouter rs → AllByRecursion IsReadableRouter qs
    → flat_map (router_text edition) rs ≡ flat_map (router_text edition) qs → rs ≡ qs
routers_cut edition rs qs hr hq e =
    (list_cut RouterConfig (router_text edition) IsReadableRouter (begins 114) any_text (λ r t. refl) (λ r t. refl) (one_router edition) rs qs [] [] hr hq refl refl refl refl
    (append-nil (flat_map (router_text edition) rs) ∙ e ∙ sym (append-nil (flat_map (router_text edition) qs)))).0

routers_follow : (edition : Edition) (rs : List RouterConfig) → begins 99 (flat_map (router_text edition) rs) ≡ false
routers_follow edition [] = refl
routers_follow edition (r ∷ rs) = refl

config_parts : (edition : Edition) (c : PlainConfig) → text_in edition c ≡ (first_line edition ++ codes "\n") ++ (class_lines edition 1 c.classes ++ flat_map (router_text edition) c.routers)
config_parts edition c = append_assoc (first_line edition ++ codes "\n") (class_lines edition 1 c.classes) (flat_map (router_text edition) c.routers)

abbrev config_of : List (List PlainPattern) → List RouterConfig → PlainConfig
config_of classes routers = record { classes = classes; routers = routers }

-- two configurations of one text are one
pub config_cut : (edition : Edition) (c d : PlainConfig) → IsReadable c → IsReadable d → text_in edition c ≡ text_in edition d → c ≡ d
config_cut edition c d hc hd e =
    let parts = append_cancel_left (first_line edition ++ codes "\n") _ _ (sym (config_parts edition c) ∙ e ∙ config_parts edition d) in
    let a = classes_cut edition 1 c.classes d.classes _ _ hc.classes hd.classes (routers_follow edition c.routers) (routers_follow edition d.routers) parts in
    let same : c.classes ≡ d.classes = a.0 in
    let next : c.routers ≡ d.routers = routers_cut edition c.routers d.routers hc.routers hd.routers a.1 in
    ap₂ config_of same next
