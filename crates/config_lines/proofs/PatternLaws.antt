-- Patterns: what is read of words is written so, and what is written is read again.
use Rattle.std.proofs.Common.{◌≡◌, ℕ, ◌<◌, List, [], ◌∷◌, ◌++◌, map, Bool, true, false, Ok, refl, sym, ◌∙◌, ap, ap₂, subst, arith, append_assoc, append-nil}
use Rattle.std.specs.Prelude.{◌&&◌, ◌==◌, nat_le, nat_lt, not, Result, codes, if◌then◌else◌}
use Rattle.std.specs.List.{slice_split, join_with_byte, list_all, flat_map, AllByRecursion}
use Rattle.std.specs.Fmt.{decimal}
use Rattle.std.proofs.lemmas.Bool.{and_parts, leb-true, le-leb, lt-ltb, ltb-true, eqb-true, eqb-false, eq-eqb, ne_eqb}
use Rattle.std.proofs.lemmas.List.Folds.{list_all-append}
use Rattle.std.proofs.lemmas.List.Splits.{join_with_byte-slice_split}
use Rattle.net_base.specs.Prefixes.{PlainPrefix, PlainPattern, IsPattern, only}
use Rattle.net_base.specs.PrefixText.{prefix_spelled, length_number}
use Rattle.net_base.specs.Steps.{or_fault, unless}
use Rattle.net_base.proofs.StepLemmas.{bind_ok, unless_ok, or_fault_ok, ok_same}
use Rattle.text_parts.specs.Texts.{prefix_text, pattern_text}
use Rattle.text_parts.proofs.PrefixTexts.{prefix_spelled-prefix_text, length_number-decimal, have_no}
use Rattle.config_lines.specs.declared.line.LineFault.{LineFault}
use Rattle.config_lines.specs.declared.line.LineFault.TheVariants.{Form}
use Rattle.config_lines.specs.LineText.{next_pattern}
use Rattle.config_lines.specs.Patterns.{up_to, pattern_of, behind_space, later_pattern, later_patterns}
use Rattle.config_lines.specs.Words.{is_word, as_prefix}
use Rattle.config_lines.proofs.Addresses.{length_back}
use Rattle.config_lines.proofs.PartLaws.{as_prefix_back, word_back}
use Rattle.config_lines.proofs.Solid.{solid, solid_prefix, solid_number, split_word, split_last, split_joined, solid_words, joined_no_comma, joined_no_feed}

-- the words of a pattern
abbrev words_by : Bool → PlainPattern → List (List ℕ)
words_by true t = prefix_text t.base ∷ []
words_by false t = prefix_text t.base ∷ codes "le" ∷ decimal t.upto ∷ []

abbrev pub pattern_words : PlainPattern → List (List ℕ)
pattern_words t = words_by (t.upto == t.base.len) t

-- they are one at least
pub pattern_words-some : (t : PlainPattern) → (w : List ℕ) × (ws : List (List ℕ)) × (pattern_words t ≡ w ∷ ws)
pattern_words-some t = by (t.upto == t.base.len)
  where
    by : (b : Bool) → (w : List ℕ) × (ws : List (List ℕ)) × (words_by b t ≡ w ∷ ws)
    by true = (prefix_text t.base, [], refl)
    by false = (prefix_text t.base, codes "le" ∷ decimal t.upto ∷ [], refl)

pub joined_pattern : (t : PlainPattern) → join_with_byte 32 (pattern_words t) ≡ pattern_text t
joined_pattern t = by (t.upto == t.base.len)
  where
    by : (b : Bool) → join_with_byte 32 (words_by b t) ≡ (if b then prefix_text t.base else prefix_text t.base ++ codes " le " ++ decimal t.upto)
    by true = refl
    by false = sym (append_assoc (prefix_text t.base) (codes " le ") (decimal t.upto))

pub solid_pattern : (t : PlainPattern) → IsPattern t → list_all solid (pattern_words t) ≡ true
solid_pattern t is = by (t.upto == t.base.len)
  where
    by : (b : Bool) → list_all solid (words_by b t) ≡ true
    by true = rw (solid_prefix t.base is.prefix) refl
    by false = rw (solid_prefix t.base is.prefix, solid_number t.upto (omega (arith, is.most))) refl

-- a pattern is read from its words
pub pattern_there : (t : PlainPattern) → IsPattern t → pattern_of (pattern_words t) ≡ Ok t
unfolding pattern_of up_to
pattern_there t is = by (t.upto == t.base.len) refl
  where
    by : (b : Bool) → (t.upto == t.base.len) ≡ b → pattern_of (words_by b t) ≡ Ok t
    by true e =
        let same : t.base.len ≡ t.upto = sym (eqb-true t.upto t.base.len e) in
        rw (prefix_spelled-prefix_text t.base is.prefix) (ap (λ (n : ℕ). let r : Result PlainPattern LineFault = Ok (record { base = t.base; upto = n }) in r) same)
    by false e =
        let apart = eqb-false t.upto t.base.len e in
        let low : t.base.len < t.upto = omega (arith, is.least, apart) in
        rw (prefix_spelled-prefix_text t.base is.prefix, length_number-decimal t.upto is.most, lt-ltb t.base.len t.upto low, le-leb t.upto 32 is.most) refl

-- what is read of words is written so
pub pattern_back : (ws : List (List ℕ)) (t : PlainPattern) → pattern_of ws ≡ Ok t → (join_with_byte 32 ws ≡ pattern_text t) × IsPattern t
unfolding pattern_of up_to
pattern_back [] t h = absurd cc
pattern_back (base ∷ []) t h =
    let p = bind_ok (as_prefix (prefix_spelled base)) _ t h in
    let same : only p.0 ≡ t = ok_same (only p.0) t p.2 in
    let back = as_prefix_back base p.0 p.1 in
    let text : base ≡ pattern_text (only p.0) = rw (eq-eqb p.0.len p.0.len refl) back.0 in
    (text ∙ ap pattern_text same, subst IsPattern same (record { prefix = back.1; least = omega arith; most = back.1.within }))
pattern_back (base ∷ le ∷ []) t h = absurd cc
pattern_back (base ∷ le ∷ upto ∷ []) t h =
    let p = bind_ok (as_prefix (prefix_spelled base)) _ t h in
    let w = bind_ok (is_word (codes "le") le) _ t p.2 in
    let n = bind_ok (or_fault Form (length_number upto)) _ t w.2 in
    let u = bind_ok (unless Form (nat_lt p.0.len n.0 && nat_le n.0 32)) _ t n.2 in
    let same : (let q : PlainPattern = record { base = p.0; upto = n.0 } in q) ≡ t = ok_same _ t u.2 in
    let back = as_prefix_back base p.0 p.1 in
    let both = and_parts (nat_lt p.0.len n.0) (nat_le n.0 32) (unless_ok Form _ u.0 u.1) in
    let low = ltb-true p.0.len n.0 both.0 in
    let high = leb-true n.0 32 both.1 in
    let text : join_with_byte 32 (base ∷ le ∷ upto ∷ []) ≡ pattern_text (record { base = p.0; upto = n.0 }) =
    joined base le upto p.0 n.0 low back.0 (word_back (codes "le") le w.0 w.1) (length_back upto n.0 (or_fault_ok Form (length_number upto) n.0 n.1)) in
    (text ∙ ap pattern_text same, subst IsPattern same (record { prefix = back.1; least = omega (arith, low); most = high }))
  where
    joined : (base le upto : List ℕ) (p : PlainPrefix) (n : ℕ) → p.len < n → base ≡ prefix_text p → le ≡ codes "le" → upto ≡ decimal n
        → join_with_byte 32 (base ∷ le ∷ upto ∷ []) ≡ pattern_text (record { base = p; upto = n })
    joined base le upto p n low eb el eu = rw (eb, el, eu, ne_eqb n p.len (λ e. omega (arith, e, low))) (sym (append_assoc (prefix_text p) (codes " le ") (decimal n)))
pattern_back (base ∷ le ∷ upto ∷ w ∷ ws) t h = absurd cc

-- ---- several

-- what stands behind a comma
abbrev pub behind : PlainPattern → List ℕ
behind t = 32 ∷ pattern_text t

pattern_no_comma : (t : PlainPattern) → IsPattern t → have_no 44 (behind t) ≡ true
pattern_no_comma t is = rw (← joined_pattern t) (joined_no_comma (pattern_words t) (solid_pattern t is))

-- patterns behind commas have no line feed
pub patterns_no_feed : (ts : List PlainPattern) → AllByRecursion IsPattern ts → have_no 10 (flat_map next_pattern ts) ≡ true
patterns_no_feed [] all = refl
patterns_no_feed (t ∷ ts) all =
    let here : have_no 10 (pattern_text t) ≡ true = ap (have_no 10) (sym (joined_pattern t)) ∙ joined_no_feed (pattern_words t) (solid_pattern t all.0) in
    list_all-append (λ b. not (b == 10)) (next_pattern t) (flat_map next_pattern ts) ∙ rw (here, patterns_no_feed ts all.1) refl

split_pattern : (t : PlainPattern) → IsPattern t → slice_split (λ b. b == 32) (pattern_text t) ≡ pattern_words t
split_pattern t is = ap (slice_split (λ b. b == 32)) (sym (joined_pattern t)) ∙ by (t.upto == t.base.len) (solid_words 32 (pattern_words t) (omega arith) (solid_pattern t is))
  where
    by : (b : Bool) → list_all (have_no 32) (words_by b t) ≡ true → slice_split (λ b. b == 32) (join_with_byte 32 (words_by b t)) ≡ words_by b t
    by true none = split_joined 32 (prefix_text t.base) [] none
    by false none = split_joined 32 (prefix_text t.base) (codes "le" ∷ decimal t.upto ∷ []) none

later_there : (t : PlainPattern) → IsPattern t → later_pattern (behind t) ≡ Ok t
later_there t is = rw (split_pattern t is) (pattern_there t is)

-- the pieces of a text with patterns behind commas
pub split_pieces : (head : List ℕ) (ts : List PlainPattern) → have_no 44 head ≡ true → AllByRecursion IsPattern ts
    → slice_split (λ b. b == 44) (head ++ flat_map next_pattern ts) ≡ head ∷ map behind ts
split_pieces head [] none all = ap (slice_split (λ b. b == 44)) (append-nil head) ∙ split_last 44 head none
split_pieces head (t ∷ ts) none all =
    split_word 44 head (behind t ++ flat_map next_pattern ts) none ∙ ap (λ (ps : List (List ℕ)). head ∷ ps) (split_pieces (behind t) ts (pattern_no_comma t all.0) all.1)

pub patterns_there : (so_far ts : List PlainPattern) → AllByRecursion IsPattern ts → later_patterns so_far (map behind ts) ≡ Ok (so_far ++ ts)
patterns_there so_far [] all = ap Ok (sym (append-nil so_far))
patterns_there so_far (t ∷ ts) all = rw (later_there t all.0) (patterns_there (so_far ++ t ∷ []) ts all.1 ∙ ap Ok (append_assoc so_far (t ∷ []) ts))

pub no_words : (t : PlainPattern) → pattern_of [] ≡ Ok t → ⊥
unfolding pattern_of
no_words t h = cc

later_back : (piece : List ℕ) (t : PlainPattern) → later_pattern piece ≡ Ok t → (piece ≡ behind t) × IsPattern t
later_back piece t h =
    let made = by (slice_split (λ b. b == 32) piece) h in
    (sym (join_with_byte-slice_split 32 piece) ∙ made.0, made.1)
  where
    by : (ws : List (List ℕ)) → behind_space ws ≡ Ok t → (join_with_byte 32 ws ≡ behind t) × IsPattern t
    by [] k = absurd cc
    by (gap ∷ []) k =
        let g = bind_ok (is_word [] gap) _ t k in
        let none : pattern_of [] ≡ Ok t = g.2 in
        absurd (no_words t none)
    by (gap ∷ w ∷ ws) k =
        let g = bind_ok (is_word [] gap) _ t k in
        let back = pattern_back (w ∷ ws) t g.2 in
        let text : gap ++ (32 ∷ join_with_byte 32 (w ∷ ws)) ≡ behind t = ap₂ (λ (x y : List ℕ). x ++ (32 ∷ y)) (word_back [] gap g.0 g.1) back.0 in
        (text, back.1)

-- the pieces behind commas that are read
pub record ReadPieces (so_far : List PlainPattern) (pieces : List (List ℕ)) (ts : List PlainPattern) : Type 0 where
  pub more : List PlainPattern
  pub whole : ts ≡ so_far ++ more
  pub text : flat_map (λ (p : List ℕ). 44 ∷ p) pieces ≡ flat_map next_pattern more
  pub are : AllByRecursion IsPattern more

pub patterns_back : (so_far : List PlainPattern) (pieces : List (List ℕ)) (ts : List PlainPattern) → later_patterns so_far pieces ≡ Ok ts → ReadPieces so_far pieces ts
patterns_back so_far [] ts h = record { more = []; whole = sym (ok_same so_far ts h) ∙ sym (append-nil so_far); text = refl; are = tt }
patterns_back so_far (piece ∷ pieces) ts h =
    let t = bind_ok (later_pattern piece) _ ts h in
    let here = later_back piece t.0 t.1 in
    let rest = patterns_back (so_far ++ t.0 ∷ []) pieces ts t.2 in
    record {
      more = t.0 ∷ rest.more;
      whole = rest.whole ∙ append_assoc so_far (t.0 ∷ []) rest.more;
      text = ap₂ (λ (x y : List ℕ). (44 ∷ x) ++ y) here.0 rest.text;
      are = (here.1, rest.are);
    }

-- pieces joined by commas
pub join_pieces : (piece : List ℕ) (pieces : List (List ℕ)) → join_with_byte 44 (piece ∷ pieces) ≡ piece ++ flat_map (λ (p : List ℕ). 44 ∷ p) pieces
join_pieces piece [] = sym (append-nil piece)
join_pieces piece (p ∷ ps) = ap (λ (t : List ℕ). piece ++ (44 ∷ t)) (join_pieces p ps)
