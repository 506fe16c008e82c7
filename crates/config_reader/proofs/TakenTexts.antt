-- The text of a lawful configuration is read.
use Rattle.std.proofs.Common.{◌≡◌, ℕ, ◌+◌, ◌<◌, ◌^◌, List, [], ◌∷◌, ◌++◌, length, map, Bool, true, false, Some, None, Result, Ok, refl, sym, ◌∙◌, ap, subst, arith, append_assoc, length-append}
use Rattle.std.specs.Prelude.{◌==◌, codes, if◌then◌else◌}
use Rattle.std.specs.List.{flat_map, AllByRecursion}
use Rattle.std.specs.Str.{bytes_eq}
use Rattle.std.proofs.lemmas.Bool.{ne_eqb}
use Rattle.std.proofs.lemmas.Slice.Eq.{bytes_eq-Decides}
use Rattle.std.proofs.lemmas.List.{map-append}
use Rattle.list_law.proofs.Each.{AllByRecursion-append, AllByRecursion-append_parts, AllByRecursion-weaker, AllByRecursion-both}
use Rattle.net_base.specs.Gives.{GivesUnless}
use Rattle.net_base.specs.Prefixes.{PlainPattern}
use Rattle.config_base.specs.declared.config.RouterConfig.{RouterConfig}
use Rattle.config_base.specs.declared.config.Session.{Session}
use Rattle.config_base.specs.declared.config.Import.{Import}
use Rattle.config_base.specs.Configs.{PlainConfig}
use Rattle.config_lines.specs.declared.edition.Edition.{Edition}
use Rattle.config_lines.specs.declared.edition.Edition.TheVariants.{First, Second}
use Rattle.config_lines.specs.declared.line.Line.{Line}
use Rattle.config_lines.specs.declared.line.Line.TheVariants as line
use Rattle.config_lines.specs.Editions.{first_line}
use Rattle.config_lines.specs.LineText.{line_text, IsLine}
use Rattle.config_lines.specs.Lines.{line_of}
use Rattle.text_parts.proofs.PrefixTexts.{have_no}
use Rattle.config_lines.proofs.WrittenForms.{IsReadAgain, class_there_by, lines_read}
use Rattle.config_text.specs.ConfigLines.{fed, lines, lines_of_classes, head_of, import_of, lines_of_session, lines_before_end, lines_of_router}
use Rattle.config_text.specs.Spelled.{IsLawful, HasLinesOf, SpellsIn}
use Rattle.config_text.proofs.TextLines.{text_of_lines}
use Rattle.config_reader.specs.declared.fault.ConfigFault.{ConfigFault}
use Rattle.config_reader.specs.declared.fault.ConfigFault.TheVariants.{NoMemory}
use Rattle.config_reader.specs.declared.reading.Reading.{Reading}
use Rattle.config_reader.specs.Reading.{opening, after}
use Rattle.config_lines.specs.LineLines.{lines_of}
use Rattle.config_lines.proofs.FedLines.{cut_lines}
use Rattle.config_lines.proofs.LineByLine.{line_by_line-append}
use Rattle.config_lines.proofs.Runs.{run_taken}
use Rattle.config_lines.proofs.WholeLines.{whole_push}
use Rattle.config_reader.specs.Text.{with_line, with_lines, finished, behind_heading, in_lines, spelled_in}
use Rattle.config_reader.proofs.Runs.{at, run_classes, run_routers}
use Rattle.config_reader.proofs.Steps.{router_ok, own_ok, neighbour_ok, import_ok, export_ok, end_ok}

line_taken : (edition : Edition) (n : ℕ) (r s : Reading) (l : Line) → line_of edition (line_text edition l) (length r.classes) ≡ Ok l
    → after r l ≡ Ok s → with_line edition n r (line_text edition l) ≡ Ok s
unfolding with_line
line_taken edition n r s l h k = rw (h, k) refl

-- ---- lines of routers

abbrev pub IsOther : Line → Type 0
IsOther (line.Class number patterns) = ⊥
IsOther (line.Router name asn id) = Unit {0}
IsOther (line.Origination o) = Unit {0}
IsOther (line.Session name asn) = Unit {0}
IsOther (line.Peer name asn) = Unit {0}
IsOther (line.Import r) = Unit {0}
IsOther (line.PeerImport r) = Unit {0}
IsOther (line.Export e) = Unit {0}
IsOther line.End = Unit {0}

pub same_classes : (r s : Reading) (l : Line) → IsOther l → after r l ≡ Ok s → s.classes ≡ r.classes
same_classes r s (line.Class number patterns) o h = absurd o
same_classes r s (line.Router name asn id) o h = sym (ap (λ (q : Reading). q.classes) (router_ok r s name asn id h).2)
same_classes r s (line.Origination own) o h = sym (ap (λ (q : Reading). q.classes) (own_ok r s own h).3)
same_classes r s (line.Session name asn) o h = sym (ap (λ (q : Reading). q.classes) (neighbour_ok false r s name asn h).3)
same_classes r s (line.Peer name asn) o h = sym (ap (λ (q : Reading). q.classes) (neighbour_ok true r s name asn h).3)
same_classes r s (line.Import rule) o h = sym (ap (λ (q : Reading). q.classes) (import_ok false r s rule h).6)
same_classes r s (line.PeerImport rule) o h = sym (ap (λ (q : Reading). q.classes) (import_ok true r s rule h).6)
same_classes r s (line.Export export) o h = sym (ap (λ (q : Reading). q.classes) (export_ok r s export h).5)
same_classes r s line.End o h = sym (ap (λ (q : Reading). q.classes) (end_ok r s h).2)

each_other : {A : Type 0} (f : A → Line) → ((x : A) → IsOther (f x)) → (xs : List A) → AllByRecursion IsOther (map f xs)
each_other f is [] = tt
each_other f is (x ∷ xs) = (is x, each_other f is xs)

pub flat_other : {A : Type 0} (f : A → List Line) → ((x : A) → AllByRecursion IsOther (f x)) → (xs : List A) → AllByRecursion IsOther (flat_map f xs)
flat_other f is [] = tt
flat_other f is (x ∷ xs) = AllByRecursion-append IsOther (f x) (flat_map f xs) (is x) (flat_other f is xs)

import_other : (b : Bool) (r : Import) → IsOther (import_of b r)
import_other true r = tt
import_other false r = tt

head_other : (s : Session) → IsOther (head_of s)
head_other s = by s.peer
  where
    by : (b : Bool) → IsOther (if b then line.Peer s.name s.asn else line.Session s.name s.asn)
    by true = tt
    by false = tt

session_other : (s : Session) → AllByRecursion IsOther (lines_of_session s)
session_other s = (
  head_other s,
  AllByRecursion-append IsOther (map (import_of s.peer) s.imports) (map line.Export s.exports)
      (each_other (import_of s.peer) (import_other s.peer) s.imports) (each_other line.Export (λ e. tt) s.exports),
)

pub router_other : (r : RouterConfig) → AllByRecursion IsOther (lines_of_router r)
router_other r =
    AllByRecursion-append IsOther (lines_before_end r) (line.End ∷ []) (
      tt,
      AllByRecursion-append IsOther (map line.Origination r.own) (flat_map lines_of_session r.sessions)
          (each_other line.Origination (λ o. tt) r.own) (flat_other lines_of_session session_other r.sessions),
    )
    (tt, tt)

-- a line of a router's block
abbrev IsOne : Edition → ℕ → Line → Type 0
IsOne edition count l = IsLine edition count l × IsOther l

-- ---- lines of classes

-- whatever stands above it
abbrev IsClassLine : Edition → Line → Type 0
IsClassLine edition l = (k : ℕ) → IsReadAgain edition k l

class_one : (edition : Edition) (count n : ℕ) (ps : List PlainPattern) → IsLine edition count (line.Class (Some n) ps) → IsClassLine edition (line.Class (Some n) ps)
class_one edition count n [] is k = absurd (is.1 refl)
class_one edition count n (p ∷ ps) is k = class_there_by edition k n p ps is.0 is.2.0 is.2.1

class_ones : (edition : Edition) (count n : ℕ) (cs : List (List PlainPattern)) → AllByRecursion (IsLine edition count) (lines_of_classes n cs)
    → AllByRecursion (IsClassLine edition) (lines_of_classes n cs)
class_ones edition count n [] fits = tt
class_ones edition count n (c ∷ cs) fits = (class_one edition count n c fits.0, class_ones edition count (n + 1) cs fits.1)

-- ---- lines of both kinds

record AreLines (edition : Edition) (c : PlainConfig) : Type 0 where
  classes : AllByRecursion (IsClassLine edition) (lines_of_classes 1 c.classes)
  routers : AllByRecursion (IsOne edition (length c.classes)) (flat_map lines_of_router c.routers)

are_lines : (edition : Edition) (c : PlainConfig) → HasLinesOf edition c → AreLines edition c
are_lines edition c fits =
    let count : ℕ = length c.classes in
    let parts = AllByRecursion-append_parts (IsLine edition count) (lines_of_classes 1 c.classes) (flat_map lines_of_router c.routers) fits in
    record {
      classes = class_ones edition count 1 c.classes parts.0;
      routers =
          AllByRecursion-both (IsLine edition count) IsOther (IsOne edition count) (λ l is other. (is, other))
          (flat_map lines_of_router c.routers) parts.1 (flat_other lines_of_router router_other c.routers);
    }

-- ---- the whole text

config_taken : (edition : Edition) (c : PlainConfig) → IsLawful c → HasLinesOf edition c → with_lines edition 2 opening (map (line_text edition) (lines c)) ≡ Ok (at c.classes c.routers None)
config_taken edition c is fits =
    let classes : List Line = lines_of_classes 1 c.classes in
    let routers : List Line = flat_map lines_of_router c.routers in
    let count : ℕ = length c.classes in
    let few : length c.classes < 2 ^ 32 = is.rules.count in
    let are = are_lines edition c fits in
    map_texts classes routers
    ∙ line_by_line-append (with_line edition) 2 opening (at c.classes [] None) (at c.classes c.routers None) (map (line_text edition) classes) (map (line_text edition) routers)
    (run_taken after (with_line edition) (line_text edition) (λ _. Unit {0}) (IsClassLine edition)
    (λ n r s l p q. line_taken edition n r s l (q (length r.classes)).0) (λ r s l p q h. tt) 2 opening
    (at c.classes [] None) classes tt are.classes (run_classes [] c.classes))
    (λ m. run_taken after (with_line edition) (line_text edition) (λ (r : Reading). r.classes ≡ c.classes) (IsOne edition count)
    (λ n r s l p q. line_taken edition n r s l (ap (λ (k : ℕ). line_of edition (line_text edition l) k) (ap length p) ∙ (lines_read edition count l few q.0).0))
    (λ r s l p q h. same_classes r s l q.1 h ∙ p)
    m (at c.classes [] None) (at c.classes c.routers None) routers refl are.routers
    (run_routers count c.classes [] c.routers (record { names = is.rules.names; asns = is.rules.asns; ids = is.rules.ids }) is.rules.routers))
  where
    map_texts : (xs ys : List Line) → with_lines edition 2 opening (map (line_text edition) (xs ++ ys)) ≡ with_lines edition 2 opening (map (line_text edition) xs ++ map (line_text edition) ys)
    map_texts xs ys = ap (with_lines edition 2 opening) (map-append (line_text edition) xs ys)

-- no line feed stands in a line
abbrev HasNoFeed : Edition → Line → Type 0
HasNoFeed edition l = have_no 10 (line_text edition l) ≡ true

no_feeds : (edition : Edition) (c : PlainConfig) → IsLawful c → HasLinesOf edition c → AllByRecursion (HasNoFeed edition) (lines c)
no_feeds edition c is fits =
    let count : ℕ = length c.classes in
    let few : length c.classes < 2 ^ 32 = is.rules.count in
    let are = are_lines edition c fits in
    AllByRecursion-append (HasNoFeed edition) (lines_of_classes 1 c.classes) (flat_map lines_of_router c.routers)
    (AllByRecursion-weaker (IsClassLine edition) (HasNoFeed edition) (lines_of_classes 1 c.classes) (λ l q. (q 0).1) are.classes)
    (AllByRecursion-weaker (IsOne edition count) (HasNoFeed edition) (flat_map lines_of_router c.routers) (λ l q. (lines_read edition count l few q.0).1) are.routers)

first_no_feed : (edition : Edition) → have_no 10 (first_line edition) ≡ true
first_no_feed First = refl
first_no_feed Second = refl

-- a text that a lawful configuration has is read
pub spelled_is_read : (edition : Edition) (bytes : List ℕ) (c : PlainConfig) → SpellsIn edition bytes c → spelled_in edition bytes ≡ Ok c
unfolding in_lines behind_heading finished
spelled_is_read edition bytes c s =
    let ts : List (List ℕ) = map (line_text edition) (lines c) in
    let whole = whole_push ts [] in
    let cut : lines_of bytes ≡ first_line edition ∷ (ts ++ [] ∷ []) =
    ap lines_of (s.written ∙ text_of_lines edition c ∙ append_assoc (first_line edition) (codes "\n") (flat_map (fed edition) (lines c)))
    ∙ cut_lines (line_text edition) (first_line edition) (lines c) (first_no_feed edition) (no_feeds edition c s.lawful s.fits) in
    let long : length (ts ++ [] ∷ []) ≡ length ts + 1 = length-append ts ([] ∷ []) in
    let some : (length (ts ++ [] ∷ []) == 0) ≡ false = ne_eqb (length (ts ++ [] ∷ [])) 0 (λ e. omega (arith, e, long)) in
    let same : bytes_eq (first_line edition) (first_line edition) ≡ true = (bytes_eq-Decides (first_line edition) (first_line edition)).1 refl in
    ap (in_lines edition) cut ∙ rw (some, same, whole.0, whole.1, config_taken edition c s.lawful s.fits) refl

-- what comes back of such a text
pub what_is_spelled : (edition : Edition) (bytes : List ℕ) (c : PlainConfig) (r : Result PlainConfig ConfigFault) → SpellsIn edition bytes c
    → GivesUnless NoMemory (λ d. d) r (spelled_in edition bytes) → GivesUnless NoMemory (λ d. d) r (Ok c)
what_is_spelled edition bytes c r s h = subst (λ (o : Result PlainConfig ConfigFault). GivesUnless NoMemory (λ d. d) r o) (spelled_is_read edition bytes c s) h
