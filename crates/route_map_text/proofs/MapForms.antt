-- Lines of maps texts that are read are written so.
use Rattle.std.proofs.Common.{◌≡◌, ℕ, List, [], ◌∷◌, length, Bool, true, false, Option, Some, None, Ok, Err, refl, sym, ◌∙◌, ap, subst}
use Rattle.std.specs.Prelude.{◌==◌, Result, codes, if◌then◌else◌}
use Rattle.std.specs.List.{slice_split, join_with_byte}
use Rattle.std.specs.Fmt.{decimal}
use Rattle.std.proofs.lemmas.List.Splits.{join_with_byte-slice_split}
use Rattle.net_base.specs.Numbers.{no_tag}
use Rattle.net_base.specs.PrefixText.{prefix_spelled}
use Rattle.net_base.proofs.StepLemmas.{bind_ok, ok_same}
use Rattle.text_parts.specs.Texts.{prefix_text, pattern_text}
use Rattle.config_base.specs.declared.config.Import.{Import}
use Rattle.config_base.specs.declared.config.Origination.{Origination}
use Rattle.config_base.specs.declared.config.Export.{Export}
use Rattle.route_maps.specs.declared.maps.ListLine.{ListLine}
use Rattle.config_lines.specs.declared.edition.Edition.TheVariants.{Second}
use Rattle.config_lines.specs.declared.line.Line.{Line}
use Rattle.config_lines.specs.declared.line.Line.TheVariants as line
use Rattle.config_lines.specs.declared.line.LineFault.{LineFault}
use Rattle.config_lines.specs.declared.number.Figure.{Figure}
use Rattle.config_lines.specs.declared.number.Figure.TheVariants.{LeadingZero, Large, Value}
use Rattle.config_lines.specs.Editions.{tag_text}
use Rattle.config_lines.specs.LineText.{class_number_text, IsClassNumber}
use Rattle.config_lines.specs.Lines.{router_line, session_line, peer_line, setting, end_line}
use Rattle.config_lines.specs.Numbers.{number_of, in_range, class_in, class_number, tag_in_range}
use Rattle.config_lines.specs.Patterns.{pattern_of}
use Rattle.config_lines.specs.Words.{is_word, as_prefix, tag_of}
use Rattle.config_lines.proofs.Digits.{number_back}
use Rattle.config_lines.proofs.PartLaws.{class_back, word_back, as_prefix_back}
use Rattle.config_lines.proofs.PatternLaws.{no_words, pattern_back}
use Rattle.config_lines.proofs.ReadForms.{router_back, session_back, peer_back, setting_back, end_back, by_word}
use Rattle.config_lines.proofs.Tags.{tag_back}
use Rattle.route_map_text.specs.declared.line.MapLine.{MapLine}
use Rattle.route_map_text.specs.declared.line.MapLine.TheVariants.{List as ListOf, Entry, Block}
use Rattle.route_map_text.specs.MapLines.{kind_of, list_line, network_line, matched, unmatched, in_line, exported, out_line, as_block, form_line, words_line, map_line_of}
use Rattle.route_map_text.specs.MapLineText.{map_line_text, IsMapLine, IsNumbered}
use Rattle.route_map_text.proofs.Entries.{entry}
use Rattle.route_map_text.proofs.MapJoined.{kind_word, list_joined, network_joined, matched_joined, unmatched_joined, out_joined}

-- the words are the line's, which keeps its rules
abbrev Says : ℕ → List (List ℕ) → MapLine → Type 0
Says count words l = (join_with_byte 32 words ≡ map_line_text l) × IsMapLine count l

-- ---- numbers without a range

abbrev IsThere : Option ℕ → Type 0
IsThere None = ⊥
IsThere (Some n) = Unit {0}

number_said : (w : List ℕ) (f : Figure) (number : Option ℕ) → number_of w ≡ Ok f → class_number f ≡ Ok number → IsThere number → (w ≡ class_number_text number) × IsClassNumber number
number_said w LeadingZero number e k there = absurd cc
number_said w Large number e k there = let none : number ≡ None = sym (ok_same None number k) in let gone : IsThere None = subst IsThere none there in absurd gone
number_said w (Value m) number e k there =
    let back = number_back w m e in
    subst (λ (o : Option ℕ). (w ≡ class_number_text o) × IsClassNumber o) (ok_same (Some m) number k) back

list_there : (number : Option ℕ) (l : ListLine) → IsNumbered (ListOf number l) → IsThere number
list_there None l is = is
list_there (Some n) l is = tt

entry_there : (number : Option ℕ) (l : Line) → IsNumbered (Entry number l) → IsThere number
entry_there None l is = is
entry_there (Some n) l is = tt

-- ---- lists

kind_back : (word : List ℕ) (permit : Bool) → kind_of word ≡ Ok permit → word ≡ kind_word permit
unfolding kind_of
kind_back word permit h =
    by_word word (codes "permit") (Ok true) _ permit (λ w. w ≡ kind_word permit) (λ k. ap kind_word (ok_same true permit k))
    (by_word word (codes "deny") (Ok false) _ permit (λ w. w ≡ kind_word permit) (λ k. ap kind_word (ok_same false permit k)) (λ k. absurd cc)) h

list_back : (count : ℕ) (ws : List (List ℕ)) (l : MapLine) → list_line ws ≡ Ok l → IsNumbered l → Says count (codes "list" ∷ ws) l
unfolding list_line
list_back count (number ∷ kind ∷ []) l h is =
    let f = bind_ok (number_of number) _ l h in
    let p = bind_ok (kind_of kind) _ l f.2 in
    let t = bind_ok (pattern_of []) _ l p.2 in
    absurd (no_words t.0 t.1)
list_back count (number ∷ kind ∷ w ∷ ws) l h is =
    let f = bind_ok (number_of number) _ l h in
    let p = bind_ok (kind_of kind) _ l f.2 in
    let t = bind_ok (pattern_of (w ∷ ws)) _ l p.2 in
    let k = bind_ok (class_number f.0) _ l t.2 in
    let made : ListLine = record { permit = p.0; pattern = t.0 } in
    let same : ListOf k.0 made ≡ l = ok_same (ListOf k.0 made) l k.2 in
    let pattern = pattern_back (w ∷ ws) t.0 t.1 in
    let said = number_said number f.0 k.0 f.1 k.1 (list_there k.0 made (subst IsNumbered (sym same) is)) in
    subst (Says count (codes "list" ∷ number ∷ kind ∷ w ∷ ws)) same
    (list_joined number kind (class_number_text k.0) (join_with_byte 32 (w ∷ ws)) (pattern_text t.0) p.0 said.0 (kind_back kind p.0 p.1) pattern.0, (said.1, pattern.1))
list_back count _ l h is = absurd cc

-- ---- lines of blocks

network_back : (count : ℕ) (ws : List (List ℕ)) (l : Line) → network_line count ws ≡ Ok l → Says count (codes "network" ∷ ws) (Block l)
unfolding network_line
network_back count (prefix ∷ list ∷ n ∷ set ∷ t ∷ []) l h =
    let p = bind_ok (as_prefix (prefix_spelled prefix)) _ l h in
    let w = bind_ok (is_word (codes "list") list) _ l p.2 in
    let f = bind_ok (number_of n) _ l w.2 in
    let v = bind_ok (is_word (codes "set") set) _ l f.2 in
    let r = bind_ok (tag_of Second t) _ l v.2 in
    let c = bind_ok (class_in count f.0) _ l r.2 in
    let g = bind_ok (tag_in_range Second r.0) _ l c.2 in
    let made : Origination = record { class = c.0; prefix = p.0; tag = g.0 } in
    let class = class_back count n f.0 c.0 f.1 c.1 in
    let base = as_prefix_back prefix p.0 p.1 in
    let tagged = tag_back Second t r.0 g.0 r.1 g.1 in
    subst (λ (x : Line). Says count (codes "network" ∷ prefix ∷ list ∷ n ∷ set ∷ t ∷ []) (Block x)) (ok_same (line.Origination made) l g.2) (
      network_joined prefix list n set t (prefix_text p.0) (decimal c.0) (tag_text Second g.0) (word_back (codes "list") list w.0 w.1) (word_back (codes "set") set v.0 v.1) base.0 class.0 tagged.0,
      (tt, ((class.1, tagged.1), base.1)),
    )
network_back count _ l h = absurd cc

-- ---- entries

-- by what is behind the list
entry_back : (count : ℕ) (word k list n : List ℕ) (ws : List (List ℕ)) (behind : Figure → Result Line LineFault) (l : MapLine) → entry k list n behind ≡ Ok l → IsNumbered l
    → ((m : Figure) (number : Option ℕ) (x : Line) → list ≡ codes "list" → number_of n ≡ Ok m → behind m ≡ Ok x → (k ≡ class_number_text number) × IsClassNumber number
    → Says count (word ∷ k ∷ list ∷ n ∷ ws) (Entry number x))
    → Says count (word ∷ k ∷ list ∷ n ∷ ws) l
entry_back count word k list n ws behind l h is says =
    let f = bind_ok (number_of k) _ l h in
    let w = bind_ok (is_word (codes "list") list) _ l f.2 in
    let m = bind_ok (number_of n) _ l w.2 in
    let x = bind_ok (behind m.0) _ l m.2 in
    let c = bind_ok (class_number f.0) _ l x.2 in
    let same : Entry c.0 x.0 ≡ l = ok_same (Entry c.0 x.0) l c.2 in
    let said = number_said k f.0 c.0 f.1 c.1 (entry_there c.0 x.0 (subst IsNumbered (sym same) is)) in
    subst (Says count (word ∷ k ∷ list ∷ n ∷ ws)) same (says m.0 c.0 x.0 (word_back (codes "list") list w.0 w.1) m.1 x.1 said)

-- an entry behind the words of its number and its list
matched_back : (count : ℕ) (k list n : List ℕ) (f : Figure) (ws : List (List ℕ)) (number : Option ℕ) (l : Line) → list ≡ codes "list" → number_of n ≡ Ok f → matched count f ws ≡ Ok l
    → (k ≡ class_number_text number) × IsClassNumber number → Says count (codes "in" ∷ k ∷ list ∷ n ∷ ws) (Entry number l)
unfolding matched
matched_back count k list n f (match' ∷ t ∷ words) number l is at h said =
    let w = bind_ok (is_word (codes "match") match') _ l h in
    let r = bind_ok (tag_of Second t) _ l w.2 in
    let s = bind_ok (setting Second words) _ l r.2 in
    let c = bind_ok (class_in count f) _ l s.2 in
    let g = bind_ok (tag_in_range Second r.0) _ l c.2 in
    let v = bind_ok (tag_in_range Second s.0.set) _ l g.2 in
    let p = bind_ok (in_range s.0.pref) _ l v.2 in
    let made : Import = record { class = c.0; tag = g.0; set = v.0; pref = p.0 } in
    let says = setting_back Second words s.0 v.0 p.0 s.1 v.1 p.1 in
    let class = class_back count n f c.0 at c.1 in
    let own = tag_back Second t r.0 g.0 r.1 g.1 in
    let text : join_with_byte 32 (codes "in" ∷ k ∷ list ∷ n ∷ match' ∷ t ∷ words) ≡ map_line_text (Entry number (line.Import made)) =
    ap (λ (v : List (List ℕ)). join_with_byte 32 (codes "in" ∷ k ∷ list ∷ n ∷ match' ∷ t ∷ v)) says.words
    ∙ matched_joined k list n match' t (class_number_text number) (decimal c.0) (tag_text Second g.0) v.0 p.0 is (word_back (codes "match") match' w.0 w.1) said.0 class.0 own.0 in
    subst (λ (x : Line). Says count (codes "in" ∷ k ∷ list ∷ n ∷ match' ∷ t ∷ words) (Entry number x)) (ok_same (line.Import made) l p.2)
    (text, (said.1, tt, (own.1, (class.1, says.fits, says.small))))
matched_back count k list n f _ number l is at h said = absurd cc

unmatched_back : (count : ℕ) (k list n : List ℕ) (f : Figure) (words : List (List ℕ)) (number : Option ℕ) (l : Line) → list ≡ codes "list" → number_of n ≡ Ok f → unmatched count f words ≡ Ok l
    → (k ≡ class_number_text number) × IsClassNumber number → Says count (codes "in" ∷ k ∷ list ∷ n ∷ words) (Entry number l)
unfolding unmatched
unmatched_back count k list n f words number l is at h said =
    let s = bind_ok (setting Second words) _ l h in
    let c = bind_ok (class_in count f) _ l s.2 in
    let v = bind_ok (tag_in_range Second s.0.set) _ l c.2 in
    let p = bind_ok (in_range s.0.pref) _ l v.2 in
    let made : Import = record { class = c.0; tag = no_tag; set = v.0; pref = p.0 } in
    let says = setting_back Second words s.0 v.0 p.0 s.1 v.1 p.1 in
    let class = class_back count n f c.0 at c.1 in
    let text : join_with_byte 32 (codes "in" ∷ k ∷ list ∷ n ∷ words) ≡ map_line_text (Entry number (line.PeerImport made)) =
    ap (λ (v : List (List ℕ)). join_with_byte 32 (codes "in" ∷ k ∷ list ∷ n ∷ v)) says.words
    ∙ unmatched_joined k list n (class_number_text number) (decimal c.0) v.0 p.0 is said.0 class.0 in
    subst (λ (x : Line). Says count (codes "in" ∷ k ∷ list ∷ n ∷ words) (Entry number x)) (ok_same (line.PeerImport made) l p.2) (text, (said.1, tt, (refl, (class.1, says.fits, says.small))))

in_back : (count : ℕ) (ws : List (List ℕ)) (l : MapLine) → in_line count ws ≡ Ok l → IsNumbered l → Says count (codes "in" ∷ ws) l
unfolding in_line
in_back count (k ∷ list ∷ n ∷ words) l h is =
    entry_back count (codes "in") k list n words (λ m. if length words == 6 then matched count m words else unmatched count m words) l h is (λ m number x. by (length words == 6) m number x)
  where
    by : (b : Bool) (m : Figure) (number : Option ℕ) (x : Line) → list ≡ codes "list" → number_of n ≡ Ok m → (if b then matched count m words else unmatched count m words) ≡ Ok x
        → (k ≡ class_number_text number) × IsClassNumber number → Says count (codes "in" ∷ k ∷ list ∷ n ∷ words) (Entry number x)
    by true m number x = matched_back count k list n m words number x
    by false m number x = unmatched_back count k list n m words number x
in_back count _ l h is = absurd cc

exported_back : (count : ℕ) (k list n : List ℕ) (f : Figure) (ws : List (List ℕ)) (number : Option ℕ) (l : Line) → list ≡ codes "list" → number_of n ≡ Ok f → exported count f ws ≡ Ok l
    → (k ≡ class_number_text number) × IsClassNumber number → Says count (codes "out" ∷ k ∷ list ∷ n ∷ ws) (Entry number l)
unfolding exported
exported_back count k list n f (match' ∷ t ∷ []) number l is at h said =
    let w = bind_ok (is_word (codes "match") match') _ l h in
    let r = bind_ok (tag_of Second t) _ l w.2 in
    let c = bind_ok (class_in count f) _ l r.2 in
    let g = bind_ok (tag_in_range Second r.0) _ l c.2 in
    let made : Export = record { class = c.0; tag = g.0 } in
    let class = class_back count n f c.0 at c.1 in
    let tagged = tag_back Second t r.0 g.0 r.1 g.1 in
    subst (λ (x : Line). Says count (codes "out" ∷ k ∷ list ∷ n ∷ match' ∷ t ∷ []) (Entry number x)) (ok_same (line.Export made) l g.2) (
      out_joined k list n match' t (class_number_text number) (decimal c.0) (tag_text Second g.0) is (word_back (codes "match") match' w.0 w.1) said.0 class.0 tagged.0,
      (said.1, tt, (class.1, tagged.1)),
    )
exported_back count k list n f _ number l is at h said = absurd cc

out_back : (count : ℕ) (ws : List (List ℕ)) (l : MapLine) → out_line count ws ≡ Ok l → IsNumbered l → Says count (codes "out" ∷ ws) l
unfolding out_line
out_back count (k ∷ list ∷ n ∷ words) l h is =
    entry_back count (codes "out") k list n words (λ m. exported count m words) l h is (λ m number x. exported_back count k list n m words number x)
out_back count _ l h is = absurd cc

-- ---- any line

-- a line of a block
block_back : (count : ℕ) (words : List (List ℕ)) (r : Result Line LineFault) (l : MapLine) → as_block r ≡ Ok l → ((x : Line) → r ≡ Ok x → Says count words (Block x)) → Says count words l
block_back count words (Ok x) l h back = subst (Says count words) (ok_same (Block x) l h) (back x refl)
block_back count words (Err e) l h back = absurd cc

form_back : (count : ℕ) (word : List ℕ) (ws : List (List ℕ)) (l : MapLine) → form_line count word ws ≡ Ok l → IsNumbered l → Says count (word ∷ ws) l
unfolding form_line
form_back count word ws l h is =
    let said : List ℕ → Type 0 = λ w. Says count (w ∷ ws) l in
    by_word word (codes "list") _ _ l said (λ k. list_back count ws l k is)
    (by_word word (codes "router") _ _ l said (λ k. block_back count (codes "router" ∷ ws) (router_line Second ws) l k
    (λ x r. router_back Second count ws x (λ (y : Line). Says count (codes "router" ∷ ws) (Block y)) r (λ name asn id says. (says.0, (tt, says.1)))))
    (by_word word (codes "network") _ _ l said (λ k. block_back count (codes "network" ∷ ws) (network_line count ws) l k (network_back count ws))
    (by_word word (codes "neighbor") _ _ l said (λ k. block_back count (codes "neighbor" ∷ ws) (session_line Second ws) l k
    (λ x r. session_back Second count (codes "neighbor") ws x (λ (y : Line). Says count (codes "neighbor" ∷ ws) (Block y)) r (λ name asn text fits. (text, (tt, fits)))))
    (by_word word (codes "peer") _ _ l said (λ k. block_back count (codes "peer" ∷ ws) (peer_line Second ws) l k
    (λ x r. peer_back Second count ws x (λ (y : Line). Says count (codes "peer" ∷ ws) (Block y)) r (λ name asn says. (says.0, (tt, says.1)))))
    (by_word word (codes "in") _ _ l said (λ k. in_back count ws l k is)
    (by_word word (codes "out") _ _ l said (λ k. out_back count ws l k is)
    (by_word word (codes "end") _ _ l said (λ k. block_back count (codes "end" ∷ ws) (end_line ws) l k
    (λ x r. end_back Second count ws x (λ (y : Line). Says count (codes "end" ∷ ws) (Block y)) r (λ says. (says.0, (tt, says.1))))) (λ k. absurd cc)))))))) h

words_back : (count : ℕ) (ws : List (List ℕ)) (l : MapLine) → words_line count ws ≡ Ok l → IsNumbered l → Says count ws l
words_back count [] l h is = absurd cc
words_back count (word ∷ ws) l h is = form_back count word ws l h is

-- a line that is read is written so, and keeps its rules
pub map_lines_written : (bytes : List ℕ) (count : ℕ) (l : MapLine) → map_line_of bytes count ≡ Ok l → IsNumbered l → (bytes ≡ map_line_text l) × IsMapLine count l
map_lines_written bytes count l h is =
    let back = words_back count (slice_split (λ b. b == 32) bytes) l h is in
    (sym (join_with_byte-slice_split 32 bytes) ∙ back.0, back.1)
