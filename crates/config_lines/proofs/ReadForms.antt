-- Lines that are read are written so.
use Rattle.std.proofs.Common.{◌≡◌, ℕ, ◌<◌, ◌^◌, List, [], ◌∷◌, ◌++◌, length, Bool, true, false, Option, Some, None, Ok, refl, sym, ◌∙◌, ap, ap₂, subst, arith, append_assoc}
use Rattle.std.specs.Prelude.{◌==◌, IsTrue, Result, Err, codes, if◌then◌else◌}
use Rattle.std.specs.List.{slice_split, join_with_byte, flat_map, AllByRecursion}
use Rattle.std.specs.Fmt.{decimal}
use Rattle.std.specs.Str.{bytes_eq}
use Rattle.std.proofs.lemmas.Bool.{ne_eqb}
use Rattle.std.proofs.lemmas.Slice.Eq.{bytes_eq-Decides}
use Rattle.std.proofs.lemmas.List.Splits.{join_with_byte-slice_split}
use Rattle.net_base.specs.Addresses.{address_of}
use Rattle.net_base.specs.NameRule.{is_name}
use Rattle.net_base.specs.Numbers.{no_tag}
use Rattle.net_base.specs.Prefixes.{PlainPattern, IsPattern}
use Rattle.net_base.specs.PrefixText.{prefix_spelled}
use Rattle.net_base.specs.Steps.{unless}
use Rattle.net_base.specs.declared.numbers.Tag.{Tag}
use Rattle.net_base.proofs.StepLemmas.{bind_ok, unless_ok, ok_same}
use Rattle.text_parts.specs.Texts.{address_text, prefix_text, pattern_text}
use Rattle.config_base.specs.declared.config.Import.{Import}
use Rattle.config_base.specs.declared.config.Origination.{Origination}
use Rattle.config_base.specs.declared.config.Export.{Export}
use Rattle.config_lines.specs.declared.edition.Edition.{Edition}
use Rattle.config_lines.specs.declared.line.Line.{Line}
use Rattle.config_lines.specs.declared.line.Line.TheVariants as line
use Rattle.config_lines.specs.declared.line.LineFault.TheVariants.{Form, Number}
use Rattle.config_lines.specs.declared.number.Figure.{Figure}
use Rattle.config_lines.specs.declared.number.Figure.TheVariants.{LeadingZero, Large, Value}
use Rattle.config_lines.specs.declared.number.Setting.{Setting}
use Rattle.config_lines.specs.Editions.{tag_text, fits_router, fits_peer, fits_tag}
use Rattle.config_lines.specs.LineText.{line_text, IsLine, IsNumbered, next_pattern}
use Rattle.config_lines.specs.Lines.{class_line, router_line, own_line, neighbour, session_line, peer_line, setting, tagged_line, untagged_line, import_line, export_line}
use Rattle.config_lines.specs.Lines.{end_line, form_line, words_line, pieces_line, line_of}
use Rattle.config_lines.specs.Numbers.{number_of, in_range, class_in, class_number, tag_in_range}
use Rattle.config_lines.specs.Patterns.{pattern_of, later_patterns}
use Rattle.config_lines.specs.Words.{is_word, name_of, identifier_of, as_prefix, tag_of}
use Rattle.config_lines.proofs.Digits.{number_back}
use Rattle.config_lines.proofs.JoinedLines.{router_joined, own_joined, neighbour_text, neighbour_joined, setting_words, export_joined, tagged_joined, untagged_joined}
use Rattle.config_lines.proofs.PartLaws.{ranged_back, class_back, word_back, name_back, identifier_back, as_prefix_back}
use Rattle.config_lines.proofs.Tags.{tag_back}
use Rattle.config_lines.proofs.PatternLaws.{no_words, pattern_back, patterns_back, join_pieces}

-- the words are the line's, which keeps its rules
abbrev pub Says : Edition → ℕ → List (List ℕ) → Line → Type 0
Says edition count words l = (join_with_byte 32 words ≡ line_text edition l) × IsLine edition count l

-- what is so of each router that the words say is so of the line
pub router_back : (edition : Edition) (count : ℕ) (ws : List (List ℕ)) (l : Line) (P : Line → Type 0) → router_line edition ws ≡ Ok l
    → ((name : List ℕ) (asn id : ℕ) → Says edition count (codes "router" ∷ ws) (line.Router name asn id) → P (line.Router name asn id)) → P l
unfolding router_line
router_back edition count (name ∷ asn ∷ n ∷ id ∷ address ∷ []) l P h said =
    let a = bind_ok (is_word (codes "asn") asn) _ l h in
    let b = bind_ok (is_word (codes "id") id) _ l a.2 in
    let f = bind_ok (number_of n) _ l b.2 in
    let i = bind_ok (identifier_of (address_of address)) _ l f.2 in
    let m = bind_ok (name_of name) _ l i.2 in
    let v = bind_ok (in_range f.0) _ l m.2 in
    let u = bind_ok (unless Number (fits_router edition v.0)) _ l v.2 in
    let named = name_back name m.0 m.1 in
    let number = ranged_back n f.0 v.0 f.1 v.1 in
    let at = identifier_back address i.0 i.1 in
    subst P (ok_same (line.Router m.0 v.0 i.0) l u.2) (said m.0 v.0 i.0 (
      router_joined name asn n id address m.0 (decimal v.0) (address_text i.0) (word_back (codes "asn") asn a.0 a.1) (word_back (codes "id") id b.0 b.1) named.0 number.0 at.0,
      (named.1, unless_ok Number (fits_router edition v.0) u.0 u.1, at.1, at.2),
    ))
router_back edition count _ l P h said = absurd cc

own_back : (edition : Edition) (count : ℕ) (ws : List (List ℕ)) (l : Line) → own_line edition count ws ≡ Ok l → Says edition count (codes "originate" ∷ ws) l
unfolding own_line
own_back edition count (n ∷ prefix ∷ tag ∷ t ∷ []) l h =
    let f = bind_ok (number_of n) _ l h in
    let p = bind_ok (as_prefix (prefix_spelled prefix)) _ l f.2 in
    let w = bind_ok (is_word (codes "tag") tag) _ l p.2 in
    let r = bind_ok (tag_of edition t) _ l w.2 in
    let c = bind_ok (class_in count f.0) _ l r.2 in
    let g = bind_ok (tag_in_range edition r.0) _ l c.2 in
    let made : Origination = record { class = c.0; prefix = p.0; tag = g.0 } in
    let class = class_back count n f.0 c.0 f.1 c.1 in
    let base = as_prefix_back prefix p.0 p.1 in
    let tagged = tag_back edition t r.0 g.0 r.1 g.1 in
    subst (Says edition count (codes "originate" ∷ n ∷ prefix ∷ tag ∷ t ∷ [])) (ok_same (line.Origination made) l g.2) (
      own_joined n prefix tag t (decimal c.0) (prefix_text p.0) (tag_text edition g.0) (word_back (codes "tag") tag w.0 w.1) class.0 base.0 tagged.0,
      ((class.1, tagged.1), base.1),
    )
own_back edition count _ l h = absurd cc

-- a neighbour's name and number
abbrev pub SaysNeighbour : List ℕ → List (List ℕ) → List ℕ × ℕ → Type 0
SaysNeighbour word ws x = (join_with_byte 32 (word ∷ ws) ≡ neighbour_text word x.0 x.1) × IsTrue (is_name x.0)

neighbour_back : (word : List ℕ) (ws : List (List ℕ)) (x : List ℕ × ℕ) → neighbour ws ≡ Ok x → SaysNeighbour word ws x
unfolding neighbour
neighbour_back word (name ∷ asn ∷ n ∷ []) x h =
    let a = bind_ok (is_word (codes "asn") asn) _ x h in
    let m = bind_ok (name_of name) _ x a.2 in
    let f = bind_ok (number_of n) _ x m.2 in
    let v = bind_ok (in_range f.0) _ x f.2 in
    let pair : (let q : List ℕ × ℕ = (m.0, v.0) in q) ≡ x = ok_same _ x v.2 in
    let named = name_back name m.0 m.1 in
    let number = (ranged_back n f.0 v.0 f.1 v.1).0 in
    subst (SaysNeighbour word (name ∷ asn ∷ n ∷ [])) pair (neighbour_joined word name asn n m.0 (decimal v.0) (word_back (codes "asn") asn a.0 a.1) named.0 number, named.1)
neighbour_back word _ x h = absurd cc

-- and of each session, behind this word
pub session_back : (edition : Edition) (count : ℕ) (word : List ℕ) (ws : List (List ℕ)) (l : Line) (P : Line → Type 0) → session_line edition ws ≡ Ok l
    → ((name : List ℕ) (asn : ℕ) → join_with_byte 32 (word ∷ ws) ≡ neighbour_text word name asn → IsLine edition count (line.Session name asn) → P (line.Session name asn)) → P l
unfolding session_line
session_back edition count word ws l P h said =
    let x = bind_ok (neighbour ws) _ l h in
    let u = bind_ok (unless Number (fits_router edition x.0.1)) _ l x.2 in
    let says = neighbour_back word ws x.0 x.1 in
    subst P (ok_same (line.Session x.0.0 x.0.1) l u.2) (said x.0.0 x.0.1 says.0 (says.1, unless_ok Number (fits_router edition x.0.1) u.0 u.1))

-- and of each peer
pub peer_back : (edition : Edition) (count : ℕ) (ws : List (List ℕ)) (l : Line) (P : Line → Type 0) → peer_line edition ws ≡ Ok l
    → ((name : List ℕ) (asn : ℕ) → Says edition count (codes "peer" ∷ ws) (line.Peer name asn) → P (line.Peer name asn)) → P l
unfolding peer_line
peer_back edition count ws l P h said =
    let x = bind_ok (neighbour ws) _ l h in
    let u = bind_ok (unless Number (fits_peer edition x.0.1)) _ l x.2 in
    let says = neighbour_back (codes "peer") ws x.0 x.1 in
    subst P (ok_same (line.Peer x.0.0 x.0.1) l u.2) (said x.0.0 x.0.1 (says.0, (says.1, unless_ok Number (fits_peer edition x.0.1) u.0 u.1)))

-- the words of a setting, whose numbers fit
pub record SaysSetting (edition : Edition) (ws : List (List ℕ)) (set : Tag) (pref : ℕ) : Type 0 where
  pub words : ws ≡ setting_words edition set pref
  pub fits : IsTrue (fits_tag edition set)
  pub small : pref < 2 ^ 32

pub setting_back : (edition : Edition) (ws : List (List ℕ)) (s : Setting) (tag : Tag) (pref : ℕ) → setting edition ws ≡ Ok s → tag_in_range edition s.set ≡ Ok tag
    → in_range s.pref ≡ Ok pref → SaysSetting edition ws tag pref
unfolding setting
setting_back edition (set ∷ t ∷ by ∷ n ∷ []) s tag pref h fits small =
    let a = bind_ok (is_word (codes "set") set) _ s h in
    let r = bind_ok (tag_of edition t) _ s a.2 in
    let b = bind_ok (is_word (codes "pref") by) _ s r.2 in
    let f = bind_ok (number_of n) _ s b.2 in
    let same : (let q : Setting = record { set = r.0; pref = f.0 } in q) ≡ s = ok_same _ s f.2 in
    let tagged = tag_back edition t s.set tag (r.1 ∙ ap (λ (q : Setting). Ok q.set) same) fits in
    let number = ranged_back n s.pref pref (f.1 ∙ ap (λ (q : Setting). Ok q.pref) same) small in
    record { words = rw (word_back (codes "set") set a.0 a.1, tagged.0, word_back (codes "pref") by b.0 b.1, number.0) refl; fits = tagged.1; small = number.1 }
setting_back edition _ s tag pref h fits small = absurd cc

tagged_back : (edition : Edition) (count : ℕ) (ws : List (List ℕ)) (l : Line) → tagged_line edition count ws ≡ Ok l → Says edition count (codes "import" ∷ ws) l
unfolding tagged_line
tagged_back edition count (n ∷ tag ∷ t ∷ words) l h =
    let f = bind_ok (number_of n) _ l h in
    let w = bind_ok (is_word (codes "tag") tag) _ l f.2 in
    let r = bind_ok (tag_of edition t) _ l w.2 in
    let s = bind_ok (setting edition words) _ l r.2 in
    let c = bind_ok (class_in count f.0) _ l s.2 in
    let g = bind_ok (tag_in_range edition r.0) _ l c.2 in
    let k = bind_ok (tag_in_range edition s.0.set) _ l g.2 in
    let p = bind_ok (in_range s.0.pref) _ l k.2 in
    let made : Import = record { class = c.0; tag = g.0; set = k.0; pref = p.0 } in
    let says = setting_back edition words s.0 k.0 p.0 s.1 k.1 p.1 in
    let class = class_back count n f.0 c.0 f.1 c.1 in
    let own = tag_back edition t r.0 g.0 r.1 g.1 in
    let text : join_with_byte 32 (codes "import" ∷ n ∷ tag ∷ t ∷ words) ≡ line_text edition (line.Import made) =
    ap (λ (v : List (List ℕ)). join_with_byte 32 (codes "import" ∷ n ∷ tag ∷ t ∷ v)) says.words
    ∙ tagged_joined edition n tag t made (word_back (codes "tag") tag w.0 w.1) class.0 own.0 in
    subst (Says edition count (codes "import" ∷ n ∷ tag ∷ t ∷ words)) (ok_same (line.Import made) l p.2) (text, (own.1, (class.1, says.fits, says.small)))
tagged_back edition count _ l h = absurd cc

untagged_back : (edition : Edition) (count : ℕ) (ws : List (List ℕ)) (l : Line) → untagged_line edition count ws ≡ Ok l → Says edition count (codes "import" ∷ ws) l
unfolding untagged_line
untagged_back edition count [] l h = absurd cc
untagged_back edition count (n ∷ words) l h =
    let f = bind_ok (number_of n) _ l h in
    let s = bind_ok (setting edition words) _ l f.2 in
    let c = bind_ok (class_in count f.0) _ l s.2 in
    let k = bind_ok (tag_in_range edition s.0.set) _ l c.2 in
    let p = bind_ok (in_range s.0.pref) _ l k.2 in
    let made : Import = record { class = c.0; tag = no_tag; set = k.0; pref = p.0 } in
    let says = setting_back edition words s.0 k.0 p.0 s.1 k.1 p.1 in
    let class = class_back count n f.0 c.0 f.1 c.1 in
    let text : join_with_byte 32 (codes "import" ∷ n ∷ words) ≡ line_text edition (line.PeerImport made) =
    ap (λ (v : List (List ℕ)). join_with_byte 32 (codes "import" ∷ n ∷ v)) says.words
    ∙ untagged_joined edition n made class.0 in
    subst (Says edition count (codes "import" ∷ n ∷ words)) (ok_same (line.PeerImport made) l p.2) (text, (refl, (class.1, says.fits, says.small)))

import_back : (edition : Edition) (count : ℕ) (ws : List (List ℕ)) (l : Line) → import_line edition count ws ≡ Ok l → Says edition count (codes "import" ∷ ws) l
unfolding import_line
import_back edition count ws l h = by (length ws == 7) h
  where
    by : (b : Bool) → (if b then tagged_line edition count ws else untagged_line edition count ws) ≡ Ok l → Says edition count (codes "import" ∷ ws) l
    by true k = tagged_back edition count ws l k
    by false k = untagged_back edition count ws l k

export_back : (edition : Edition) (count : ℕ) (ws : List (List ℕ)) (l : Line) → export_line edition count ws ≡ Ok l → Says edition count (codes "export" ∷ ws) l
unfolding export_line
export_back edition count (n ∷ tag ∷ t ∷ []) l h =
    let f = bind_ok (number_of n) _ l h in
    let w = bind_ok (is_word (codes "tag") tag) _ l f.2 in
    let r = bind_ok (tag_of edition t) _ l w.2 in
    let c = bind_ok (class_in count f.0) _ l r.2 in
    let g = bind_ok (tag_in_range edition r.0) _ l c.2 in
    let made : Export = record { class = c.0; tag = g.0 } in
    let class = class_back count n f.0 c.0 f.1 c.1 in
    let tagged = tag_back edition t r.0 g.0 r.1 g.1 in
    subst (Says edition count (codes "export" ∷ n ∷ tag ∷ t ∷ [])) (ok_same (line.Export made) l g.2)
    (export_joined n tag t (decimal c.0) (tag_text edition g.0) (word_back (codes "tag") tag w.0 w.1) class.0 tagged.0, (class.1, tagged.1))
export_back edition count _ l h = absurd cc

pub end_back : (edition : Edition) (count : ℕ) (ws : List (List ℕ)) (l : Line) (P : Line → Type 0) → end_line ws ≡ Ok l
    → (Says edition count (codes "end" ∷ ws) line.End → P line.End) → P l
unfolding end_line
end_back edition count [] l P h said = subst P (ok_same line.End l h) (said (refl, tt))
end_back edition count (a ∷ ws) l P h said = absurd cc

-- by whether a word is this one
pub by_word : {A F : Type 0} (word fixed : List ℕ) (this other : Result A F) (x : A) (P : List ℕ → Type 0) → (this ≡ Ok x → P fixed) → (other ≡ Ok x → P word)
    → (if bytes_eq word fixed then this else other) ≡ Ok x → P word
by_word word fixed this other x P same apart h = by (bytes_eq word fixed) refl h
  where
    by : (b : Bool) → bytes_eq word fixed ≡ b → (if b then this else other) ≡ Ok x → P word
    by true e k = subst P (sym ((bytes_eq-Decides word fixed).0 e)) (same k)
    by false e k = apart k

form_back : (edition : Edition) (count : ℕ) (word : List ℕ) (ws : List (List ℕ)) (l : Line) → form_line edition count word ws ≡ Ok l → Says edition count (word ∷ ws) l
unfolding form_line
form_back edition count word ws l =
    let said : List ℕ → Type 0 = λ w. Says edition count (w ∷ ws) l in
    by_word word (codes "router") _ _ l said (λ k. router_back edition count ws l (Says edition count (codes "router" ∷ ws)) k (λ name asn id says. says))
    (by_word word (codes "originate") _ _ l said (own_back edition count ws l)
    (by_word word (codes "session") _ _ l said (λ k. session_back edition count (codes "session") ws l (Says edition count (codes "session" ∷ ws)) k (λ name asn text is. (text, is)))
    (by_word word (codes "peer") _ _ l said (λ k. peer_back edition count ws l (Says edition count (codes "peer" ∷ ws)) k (λ name asn says. says))
    (by_word word (codes "import") _ _ l said (import_back edition count ws l)
    (by_word word (codes "export") _ _ l said (export_back edition count ws l)
    (by_word word (codes "end") _ _ l said (λ k. end_back edition count ws l (Says edition count (codes "end" ∷ ws)) k (λ says. says)) (λ k. absurd cc)))))))

-- ---- the line of a class

no_number : (pieces : List (List ℕ)) (l : Line) → class_line [] pieces ≡ Ok l → ⊥
unfolding class_line
no_number pieces l e = cc

class_text : (edition : Edition) (count : ℕ) (number : List ℕ) (pattern pieces : List (List ℕ)) (l : Line) → class_line (number ∷ pattern) pieces ≡ Ok l → IsNumbered l
    → (join_with_byte 44 (join_with_byte 32 (codes "class" ∷ number ∷ pattern) ∷ pieces) ≡ line_text edition l) × IsLine edition count l
unfolding class_line
class_text edition count number [] pieces l h is =
    let n = bind_ok (number_of number) _ l h in
    let t = bind_ok (pattern_of []) _ l n.2 in
    absurd (no_words t.0 t.1)
class_text edition count number (w ∷ ws) pieces l h is =
    let n = bind_ok (number_of number) _ l h in
    let t = bind_ok (pattern_of (w ∷ ws)) _ l n.2 in
    let ps = bind_ok (later_patterns (t.0 ∷ []) pieces) _ l t.2 in
    let k = bind_ok (class_number n.0) _ l ps.2 in
    let first = pattern_back (w ∷ ws) t.0 t.1 in
    let rest = patterns_back (t.0 ∷ []) pieces ps.0 ps.1 in
    numbered n.0 n.1 k.0 k.1 t.0 first ps.0 rest.more rest.whole rest.text rest.are (ok_same (line.Class k.0 ps.0) l k.2)
  where
    numbered : (f : Figure) → number_of number ≡ Ok f → (k : Option ℕ) → class_number f ≡ Ok k → (t : PlainPattern) → (join_with_byte 32 (w ∷ ws) ≡ pattern_text t) × IsPattern t
        → (ps more : List PlainPattern) → ps ≡ (t ∷ []) ++ more → flat_map (λ (p : List ℕ). 44 ∷ p) pieces ≡ flat_map next_pattern more → AllByRecursion IsPattern more
        → line.Class k ps ≡ l → (join_with_byte 44 (join_with_byte 32 (codes "class" ∷ number ∷ w ∷ ws) ∷ pieces) ≡ line_text edition l) × IsLine edition count l
    numbered LeadingZero e k c t first ps more whole text are same = absurd cc
    numbered Large e k c t first ps more whole text are same =
        let none : k ≡ None = sym (ok_same None k c) in
        let gone : IsNumbered (line.Class None ps) = subst IsNumbered (sym same ∙ ap (λ (o : Option ℕ). line.Class o ps) none) is in
        absurd gone
    numbered (Value m) e k c t first ps more whole text are same =
        let some : Some m ≡ k = ok_same (Some m) k c in
        let back = number_back number m e in
        let joined : join_with_byte 44 (join_with_byte 32 (codes "class" ∷ number ∷ w ∷ ws) ∷ pieces) ≡ line_text edition (line.Class (Some m) (t ∷ more)) =
        join_pieces (join_with_byte 32 (codes "class" ∷ number ∷ w ∷ ws)) pieces
        ∙ parts_by number (decimal m) (join_with_byte 32 (w ∷ ws)) (pattern_text t) (flat_map (λ (p : List ℕ). 44 ∷ p) pieces)
        (flat_map next_pattern more) back.0 first.0 text in
        let made : line.Class (Some m) (t ∷ more) ≡ l = ap₂ (λ (o : Option ℕ) (qs : List PlainPattern). line.Class o qs) some (sym whole) ∙ same in
        subst (λ (x : Line). (join_with_byte 44 (join_with_byte 32 (codes "class" ∷ number ∷ w ∷ ws) ∷ pieces) ≡ line_text edition x) × IsLine edition count x) made
        (joined, (back.1, (λ (none : t ∷ more ≡ []). let gone : ⊥ = cc in gone), (first.1, are)))
      where
        parts_by : (number a joined b more c : List ℕ) → number ≡ a → joined ≡ b → more ≡ c
            → (codes "class" ++ (32 ∷ (number ++ (32 ∷ joined)))) ++ more ≡ codes "class " ++ a ++ codes " " ++ (b ++ c)
        parts_by number a joined b more c e f g = rw (e, f, g, append_assoc a (32 ∷ b) c, append_assoc a (codes " ") (b ++ c)) refl

words_back : (edition : Edition) (count : ℕ) (ws pieces : List (List ℕ)) (l : Line) → words_line edition count ws pieces ≡ Ok l → IsNumbered l
    → (join_with_byte 44 (join_with_byte 32 ws ∷ pieces) ≡ line_text edition l) × IsLine edition count l
unfolding words_line
words_back edition count [] pieces l h is = absurd cc
words_back edition count (word ∷ ws) pieces l h is =
    by_word word (codes "class") _ _ l (λ w. (join_with_byte 44 (join_with_byte 32 (w ∷ ws) ∷ pieces) ≡ line_text edition l) × IsLine edition count l) (of_class ws) (alone pieces) h
  where
    apart : (b : Bool) → b ≡ false → (if b then form_line edition count word ws else Err Form) ≡ Ok l → ⊥
    apart false e k = cc
    apart true e k = cc

    alone : (ps : List (List ℕ)) → (if length ps == 0 then form_line edition count word ws else Err Form) ≡ Ok l
        → (join_with_byte 44 (join_with_byte 32 (word ∷ ws) ∷ ps) ≡ line_text edition l) × IsLine edition count l
    alone [] k = form_back edition count word ws l k
    alone (p ∷ ps) k = absurd (apart (length (p ∷ ps) == 0) (ne_eqb (length (p ∷ ps)) 0 (λ e. omega (arith, e))) k)

    of_class : (ws : List (List ℕ)) → class_line ws pieces ≡ Ok l → (join_with_byte 44 (join_with_byte 32 (codes "class" ∷ ws) ∷ pieces) ≡ line_text edition l) × IsLine edition count l
    of_class [] k = absurd (no_number pieces l k)
    of_class (number ∷ pattern) k = class_text edition count number pattern pieces l k is

-- a line that is read is written so, and keeps its rules
pub lines_written : (edition : Edition) (bytes : List ℕ) (count : ℕ) (l : Line) → line_of edition bytes count ≡ Ok l → IsNumbered l → (bytes ≡ line_text edition l) × IsLine edition count l
unfolding line_of
lines_written edition bytes count l h is = by (slice_split (λ b. b == 44) bytes) refl h
  where
    by : (pieces : List (List ℕ)) → slice_split (λ b. b == 44) bytes ≡ pieces → pieces_line edition count pieces ≡ Ok l → (bytes ≡ line_text edition l) × IsLine edition count l
    by [] e k = absurd cc
    by (piece ∷ pieces) e k =
        let back = words_back edition count (slice_split (λ b. b == 32) piece) pieces l k is in
        let whole : bytes ≡ join_with_byte 44 (piece ∷ pieces) = sym (join_with_byte-slice_split 44 bytes) ∙ ap (join_with_byte 44) e in
        (whole ∙ ap (λ (p : List ℕ). join_with_byte 44 (p ∷ pieces)) (sym (join_with_byte-slice_split 32 piece)) ∙ back.0, back.1)
