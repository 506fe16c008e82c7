-- Lines that are written are read again.
use Rattle.std.proofs.Common.{◌≡◌, ℕ, ◌<◌, ◌^◌, List, [], ◌∷◌, ◌++◌, map, true, Some, None, Ok, refl, sym, ◌∙◌, ap, arith, append_assoc}
use Rattle.std.specs.Prelude.{◌≢◌, ◌==◌, not, IsTrue, codes}
use Rattle.std.specs.List.{slice_split, join_with_byte, list_all, flat_map, AllByRecursion}
use Rattle.std.specs.Fmt.{decimal}
use Rattle.std.proofs.lemmas.Bool.{ne_eqb}
use Rattle.std.proofs.lemmas.List.Folds.{list_all-append}
use Rattle.net_base.specs.NameRule.{is_name}
use Rattle.net_base.specs.Prefixes.{PlainPattern, IsPattern}
use Rattle.text_parts.specs.Texts.{address_text, prefix_text, pattern_text}
use Rattle.text_parts.proofs.PrefixTexts.{address_of-address_text, prefix_spelled-prefix_text, have_no}
use Rattle.config_base.specs.declared.config.Import.{Import}
use Rattle.config_base.specs.declared.config.Origination.{Origination}
use Rattle.config_base.specs.declared.config.Export.{Export}
use Rattle.config_lines.specs.declared.edition.Edition.{Edition}
use Rattle.config_lines.specs.declared.line.Line.{Line}
use Rattle.config_lines.specs.declared.line.Line.TheVariants as line
use Rattle.config_lines.specs.Editions.{tag_text, fits_router, fits_peer}
use Rattle.config_lines.specs.LineText.{line_text, IsLine, next_pattern}
use Rattle.config_lines.specs.Lines.{class_line, router_line, own_line, neighbour, session_line, peer_line, setting, tagged_line, untagged_line, import_line, export_line}
use Rattle.config_lines.specs.Lines.{end_line, form_line, words_line, pieces_line, line_of}
use Rattle.config_lines.proofs.Digits.{number_there}
use Rattle.config_lines.proofs.JoinedLines.{router_joined, own_joined, neighbour_text, neighbour_joined, setting_words, export_joined, tagged_joined, untagged_joined}
use Rattle.config_lines.proofs.PartLaws.{class_there, class_low, name_there}
use Rattle.config_lines.proofs.PatternLaws.{pattern_words, pattern_words-some, joined_pattern, solid_pattern, pattern_there, behind, split_pieces, patterns_there, patterns_no_feed}
use Rattle.config_lines.proofs.Ranges.{router_low, peer_low}
use Rattle.config_lines.proofs.Solid.{solid, solid_name, solid_number, solid_address, solid_prefix, split_last, split_joined, solid_words, joined_no_comma, joined_no_feed}
use Rattle.config_lines.proofs.Tags.{tag_there, solid_tag}

-- a line without commas is read by its words
words_read : (edition : Edition) (count : ℕ) (w : List ℕ) (ws : List (List ℕ)) → list_all solid (w ∷ ws) ≡ true
    → line_of edition (join_with_byte 32 (w ∷ ws)) count ≡ words_line edition count (w ∷ ws) []
unfolding line_of
words_read edition count w ws all =
    rw (split_last 44 (join_with_byte 32 (w ∷ ws)) (joined_no_comma (w ∷ ws) all), split_joined 32 w ws (solid_words 32 (w ∷ ws) (omega arith) all)) refl

-- its text is read as the line, and has no line feed
abbrev pub IsReadAgain : Edition → ℕ → Line → Type 0
IsReadAgain edition count l = (line_of edition (line_text edition l) count ≡ Ok l) × (have_no 10 (line_text edition l) ≡ true)

-- a line whose words are read is read
by_words : (edition : Edition) (count : ℕ) (l : Line) (w : List ℕ) (ws : List (List ℕ)) → join_with_byte 32 (w ∷ ws) ≡ line_text edition l
    → list_all solid (w ∷ ws) ≡ true → words_line edition count (w ∷ ws) [] ≡ Ok l → IsReadAgain edition count l
by_words edition count l w ws text all read = (
  ap (λ (bs : List ℕ). line_of edition bs count) (sym text) ∙ words_read edition count w ws all ∙ read,
  ap (have_no 10) (sym text) ∙ joined_no_feed (w ∷ ws) all,
)

-- ---- routers and neighbours: what stands behind their first word

abbrev pub router_words : List ℕ → ℕ → ℕ → List (List ℕ)
router_words name asn id = name ∷ codes "asn" ∷ decimal asn ∷ codes "id" ∷ address_text id ∷ []

pub router_written : (name : List ℕ) (asn id : ℕ) → join_with_byte 32 (codes "router" ∷ router_words name asn id)
    ≡ codes "router " ++ name ++ codes " asn " ++ decimal asn ++ codes " id " ++ address_text id
router_written name asn id = router_joined name (codes "asn") (decimal asn) (codes "id") (address_text id) name (decimal asn) (address_text id) refl refl refl refl refl

pub router_solid : (name : List ℕ) (asn id : ℕ) → IsTrue (is_name name) → asn < 2 ^ 32 → id < 2 ^ 32 → list_all solid (router_words name asn id) ≡ true
router_solid name asn id named low wide = rw (solid_name name named, solid_number asn (omega (arith, low)), solid_address id wide) refl

pub router_read : (edition : Edition) (name : List ℕ) (asn id : ℕ) → IsTrue (is_name name) → IsTrue (fits_router edition asn) → id ≢ 0 → id < 2 ^ 32
    → router_line edition (router_words name asn id) ≡ Ok (line.Router name asn id)
unfolding router_line
router_read edition name asn id named number apart wide =
    let is : fits_router edition asn ≡ true = number in
    rw (number_there asn (router_low edition asn number), address_of-address_text id wide, ne_eqb id 0 apart, name_there name named, is) refl

abbrev pub neighbour_words : List ℕ → ℕ → List (List ℕ)
neighbour_words name asn = name ∷ codes "asn" ∷ decimal asn ∷ []

pub neighbour_written : (word name : List ℕ) (asn : ℕ) → join_with_byte 32 (word ∷ neighbour_words name asn) ≡ neighbour_text word name asn
neighbour_written word name asn = neighbour_joined word name (codes "asn") (decimal asn) name (decimal asn) refl refl refl

pub neighbour_solid : (name : List ℕ) (asn : ℕ) → IsTrue (is_name name) → asn < 2 ^ 32 → list_all solid (neighbour_words name asn) ≡ true
neighbour_solid name asn named low = rw (solid_name name named, solid_number asn (omega (arith, low))) refl

neighbour_read : (name : List ℕ) (asn : ℕ) → IsTrue (is_name name) → asn < 2 ^ 32 → neighbour (neighbour_words name asn) ≡ Ok (name, asn)
unfolding neighbour
neighbour_read name asn named low = rw (name_there name named, number_there asn low) refl

pub session_read : (edition : Edition) (name : List ℕ) (asn : ℕ) → IsTrue (is_name name) → IsTrue (fits_router edition asn)
    → session_line edition (neighbour_words name asn) ≡ Ok (line.Session name asn)
unfolding session_line
session_read edition name asn named number = let is : fits_router edition asn ≡ true = number in rw (neighbour_read name asn named (router_low edition asn number), is) refl

pub peer_read : (edition : Edition) (name : List ℕ) (asn : ℕ) → IsTrue (is_name name) → IsTrue (fits_peer edition asn)
    → peer_line edition (neighbour_words name asn) ≡ Ok (line.Peer name asn)
unfolding peer_line
peer_read edition name asn named number = let is : fits_peer edition asn ≡ true = number in rw (neighbour_read name asn named (peer_low edition asn number), is) refl

-- ---- each form

router_there : (edition : Edition) (count : ℕ) (name : List ℕ) (asn id : ℕ) → IsTrue (is_name name) → IsTrue (fits_router edition asn) → id ≢ 0
    → id < 2 ^ 32 → IsReadAgain edition count (line.Router name asn id)
unfolding words_line form_line
router_there edition count name asn id named number apart wide =
    by_words edition count (line.Router name asn id) (codes "router") (router_words name asn id) (router_written name asn id)
    (router_solid name asn id named (router_low edition asn number) wide) (router_read edition name asn id named number apart wide)

own_there : (edition : Edition) (count : ℕ) (o : Origination) → count < 2 ^ 32 → IsLine edition count (line.Origination o) → IsReadAgain edition count (line.Origination o)
unfolding words_line form_line own_line
own_there edition count o few is =
    let low = class_low count o.class few is.0.0 in
    let tag = tag_there edition o.tag is.0.1 in
    by_words edition count (line.Origination o) (codes "originate") (decimal o.class ∷ prefix_text o.prefix ∷ codes "tag" ∷ tag_text edition o.tag ∷ [])
    (own_joined (decimal o.class) (prefix_text o.prefix) (codes "tag") (tag_text edition o.tag) (decimal o.class) (prefix_text o.prefix) (tag_text edition o.tag) refl refl refl refl)
    (rw (solid_number o.class (omega (arith, low)), solid_prefix o.prefix is.1, solid_tag edition o.tag is.0.1) refl)
    (rw (number_there o.class low, prefix_spelled-prefix_text o.prefix is.1, tag.0, class_there count o.class is.0.0, tag.1) refl)

session_there : (edition : Edition) (count : ℕ) (name : List ℕ) (asn : ℕ) → IsTrue (is_name name) → IsTrue (fits_router edition asn) → IsReadAgain edition count (line.Session name asn)
unfolding words_line form_line
session_there edition count name asn named number =
    by_words edition count (line.Session name asn) (codes "session") (neighbour_words name asn) (neighbour_written (codes "session") name asn)
    (neighbour_solid name asn named (router_low edition asn number)) (session_read edition name asn named number)

peer_there : (edition : Edition) (count : ℕ) (name : List ℕ) (asn : ℕ) → IsTrue (is_name name) → IsTrue (fits_peer edition asn) → IsReadAgain edition count (line.Peer name asn)
unfolding words_line form_line
peer_there edition count name asn named number =
    by_words edition count (line.Peer name asn) (codes "peer") (neighbour_words name asn) (neighbour_written (codes "peer") name asn)
    (neighbour_solid name asn named (peer_low edition asn number)) (peer_read edition name asn named number)

tagged_there : (edition : Edition) (count : ℕ) (r : Import) → count < 2 ^ 32 → IsLine edition count (line.Import r) → IsReadAgain edition count (line.Import r)
unfolding words_line form_line import_line tagged_line setting
tagged_there edition count r few is =
    let low = class_low count r.class few is.1.0 in
    let tag = tag_there edition r.tag is.0 in
    let set = tag_there edition r.set is.1.1 in
    by_words edition count (line.Import r) (codes "import") (decimal r.class ∷ codes "tag" ∷ tag_text edition r.tag ∷ setting_words edition r.set r.pref)
    (tagged_joined edition (decimal r.class) (codes "tag") (tag_text edition r.tag) r refl refl refl)
    (rw (solid_number r.class (omega (arith, low)), solid_tag edition r.tag is.0, solid_tag edition r.set is.1.1, solid_number r.pref (omega (arith, is.1.2))) refl)
    (rw (number_there r.class low, tag.0, set.0, number_there r.pref is.1.2, class_there count r.class is.1.0, tag.1, set.1) refl)

untagged_there : (edition : Edition) (count : ℕ) (r : Import) → count < 2 ^ 32 → IsLine edition count (line.PeerImport r) → IsReadAgain edition count (line.PeerImport r)
unfolding words_line form_line import_line untagged_line setting
untagged_there edition count r few is =
    let low = class_low count r.class few is.1.0 in
    let set = tag_there edition r.set is.1.1 in
    by_words edition count (line.PeerImport r) (codes "import") (decimal r.class ∷ setting_words edition r.set r.pref)
    (untagged_joined edition (decimal r.class) r refl)
    (rw (solid_number r.class (omega (arith, low)), solid_tag edition r.set is.1.1, solid_number r.pref (omega (arith, is.1.2))) refl)
    (rw (number_there r.class low, set.0, number_there r.pref is.1.2, class_there count r.class is.1.0, set.1, sym is.0) refl)

export_there : (edition : Edition) (count : ℕ) (e : Export) → count < 2 ^ 32 → IsLine edition count (line.Export e) → IsReadAgain edition count (line.Export e)
unfolding words_line form_line export_line
export_there edition count e few is =
    let low = class_low count e.class few is.0 in
    let tag = tag_there edition e.tag is.1 in
    by_words edition count (line.Export e) (codes "export") (decimal e.class ∷ codes "tag" ∷ tag_text edition e.tag ∷ [])
    (export_joined (decimal e.class) (codes "tag") (tag_text edition e.tag) (decimal e.class) (tag_text edition e.tag) refl refl refl)
    (rw (solid_number e.class (omega (arith, low)), solid_tag edition e.tag is.1) refl)
    (rw (number_there e.class low, tag.0, class_there count e.class is.0, tag.1) refl)

end_there : (edition : Edition) (count : ℕ) → IsReadAgain edition count line.End
unfolding words_line form_line end_line
end_there edition count = by_words edition count line.End (codes "end") [] refl refl refl

-- the first piece of a class's line
class_head : (n : ℕ) (t : PlainPattern) → join_with_byte 32 (codes "class" ∷ decimal n ∷ pattern_words t) ≡ codes "class " ++ decimal n ++ codes " " ++ pattern_text t
class_head n t =
    let some = pattern_words-some t in
    ap (λ (vs : List (List ℕ)). join_with_byte 32 (codes "class" ∷ decimal n ∷ vs)) some.2
    ∙ parts_by (decimal n) (join_with_byte 32 (some.0 ∷ some.1))
    ∙ ap (λ (x : List ℕ). codes "class " ++ decimal n ++ codes " " ++ x) (ap (join_with_byte 32) (sym some.2) ∙ joined_pattern t)
  where
    parts_by : (a b : List ℕ) → codes "class" ++ (32 ∷ (a ++ (32 ∷ b))) ≡ codes "class " ++ a ++ codes " " ++ b
    parts_by a b = rw (append_assoc a (codes " ") b) refl

pub class_there_by : (edition : Edition) (count n : ℕ) (t : PlainPattern) (ts : List PlainPattern) → n < 2 ^ 32 → IsPattern t → AllByRecursion IsPattern ts
    → IsReadAgain edition count (line.Class (Some n) (t ∷ ts))
unfolding line_of words_line class_line
class_there_by edition count n t ts low is all =
    let head : List (List ℕ) = codes "class" ∷ decimal n ∷ pattern_words t in
    let sound : list_all solid head ≡ true = rw (solid_number n (omega (arith, low)), solid_pattern t is) refl in
    let text : line_text edition (line.Class (Some n) (t ∷ ts)) ≡ join_with_byte 32 head ++ flat_map next_pattern ts =
    sym (append_assoc (codes "class " ++ decimal n ++ codes " ") (pattern_text t) (flat_map next_pattern ts)) ∙ ap (λ (x : List ℕ). x ++ flat_map next_pattern ts) (sym (class_head n t)) in
    let cut : slice_split (λ b. b == 44) (line_text edition (line.Class (Some n) (t ∷ ts))) ≡ join_with_byte 32 head ∷ map behind ts =
    ap (slice_split (λ b. b == 44)) text ∙ split_pieces (join_with_byte 32 head) ts (joined_no_comma head sound) all in
    let words : slice_split (λ b. b == 32) (join_with_byte 32 head) ≡ head = split_joined 32 (codes "class") (decimal n ∷ pattern_words t) (solid_words 32 head (omega arith) sound) in
    let read : line_of edition (line_text edition (line.Class (Some n) (t ∷ ts))) count ≡ Ok (line.Class (Some n) (t ∷ ts)) =
    ap (pieces_line edition count) cut
    ∙ ap (λ (ws : List (List ℕ)). words_line edition count ws (map behind ts)) words
    ∙ rw (number_there n low, pattern_there t is, patterns_there (t ∷ []) ts all) refl in
    (read, ap (have_no 10) text ∙ list_all-append (λ b. not (b == 10)) (join_with_byte 32 head) (flat_map next_pattern ts) ∙ rw (joined_no_feed head sound, patterns_no_feed ts all) refl)

-- a line that keeps its rules is read from its text
pub lines_read : (edition : Edition) (count : ℕ) (l : Line) → count < 2 ^ 32 → IsLine edition count l → IsReadAgain edition count l
lines_read edition count (line.Class (Some n) (t ∷ ts)) few is = class_there_by edition count n t ts is.0 is.2.0 is.2.1
lines_read edition count (line.Class (Some n) []) few is = absurd (is.1 refl)
lines_read edition count (line.Class None ts) few is = absurd is.0
lines_read edition count (line.Router name asn id) few is = router_there edition count name asn id is.0 is.1 is.2 is.3
lines_read edition count (line.Origination o) few is = own_there edition count o few is
lines_read edition count (line.Session name asn) few is = session_there edition count name asn is.0 is.1
lines_read edition count (line.Peer name asn) few is = peer_there edition count name asn is.0 is.1
lines_read edition count (line.Import r) few is = tagged_there edition count r few is
lines_read edition count (line.PeerImport r) few is = untagged_there edition count r few is
lines_read edition count (line.Export e) few is = export_there edition count e few is
lines_read edition count line.End few is = end_there edition count
