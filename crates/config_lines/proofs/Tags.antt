-- Tags: what is read of them is their text, their text is read, and it is read in one way only.
use Rattle.std.proofs.Common.{◌≡◌, ℕ, ◌<◌, ◌^◌, List, [], ◌∷◌, ◌++◌, true, Some, Ok, refl, sym, ◌∙◌, ap, ap₂, subst, arith, append_assoc}
use Rattle.std.specs.Prelude.{◌&&◌, ◌==◌, IsTrue, codes}
use Rattle.std.specs.Fmt.{decimal}
use Rattle.std.proofs.lemmas.Bool.{and_parts, eqb-true}
use Rattle.std.proofs.lemmas.Fmt.{decimal_digit}
use Rattle.std.proofs.lemmas.List.{append_cancel_left}
use Rattle.net_base.specs.Addresses.{is_figure, cut_at}
use Rattle.net_base.specs.Steps.{or_fault, unless}
use Rattle.net_base.specs.declared.numbers.Tag.{Tag}
use Rattle.net_base.proofs.StepLemmas.{bind_ok, unless_ok, or_fault_ok, ok_same}
use Rattle.text_parts.specs.Ends.{stops}
use Rattle.text_parts.proofs.PrefixTexts.{cut_at-there}
use Rattle.text_parts.proofs.Words.{number_cut}
use Rattle.config_lines.specs.declared.edition.Edition.{Edition}
use Rattle.config_lines.specs.declared.edition.Edition.TheVariants.{First, Second}
use Rattle.config_lines.specs.declared.line.LineFault.TheVariants.{Form, Number}
use Rattle.config_lines.specs.declared.number.Figure.{Figure}
use Rattle.config_lines.specs.declared.number.Figure.TheVariants.{Value}
use Rattle.config_lines.specs.declared.number.RawTag.{RawTag}
use Rattle.config_lines.specs.Editions.{tag_text, fits_tag}
use Rattle.config_lines.specs.Numbers.{number_of, in_range, tag_in_range}
use Rattle.config_lines.specs.Words.{pair_of, triple_of, tag_of}
use Rattle.config_lines.proofs.Addresses.{cut_back}
use Rattle.config_lines.proofs.Digits.{number_back, number_there}
use Rattle.config_lines.proofs.PartLaws.{in_range_back}
use Rattle.config_lines.proofs.Ranges.{tag_low}
use Rattle.config_lines.proofs.Solid.{solid, solid_append, solid_number, no_colon}

abbrev tag_of_numbers : ℕ → ℕ → Tag
tag_of_numbers asn value = record { asn = asn; value = value }

abbrev raw_of : Figure → Figure → Figure → RawTag
raw_of asn middle value = record { asn = asn; middle = middle; value = value }

zero_text : decimal 0 ≡ 48 ∷ []
zero_text = decimal_digit 0 (omega arith)

-- ---- what is read

-- a word of three numbers in their places
record Reads (e : Edition) (word : List ℕ) (raw : RawTag) : Type 0 where
  asn : List ℕ
  value : List ℕ
  asn_is : number_of asn ≡ Ok raw.asn
  value_is : number_of value ≡ Ok raw.value
  text : (t : Tag) → asn ≡ decimal t.asn → value ≡ decimal t.value → raw.middle ≡ Value 0 → word ≡ tag_text e t

pair_back : (word : List ℕ) (raw : RawTag) → pair_of word ≡ Ok raw → Reads First word raw
unfolding pair_of
pair_back word raw h =
    let c = bind_ok (or_fault Form (cut_at 58 word)) _ raw h in
    let a = bind_ok (number_of c.0.0) _ raw c.2 in
    let v = bind_ok (number_of c.0.1) _ raw a.2 in
    let same : raw_of a.0 (Value 0) v.0 ≡ raw = ok_same _ raw v.2 in
    record {
      asn = c.0.0;
      value = c.0.1;
      asn_is = a.1 ∙ ap (λ (q : RawTag). Ok q.asn) same;
      value_is = v.1 ∙ ap (λ (q : RawTag). Ok q.value) same;
      text = λ t ea ev zero.
          cut_back 58 word c.0.0 c.0.1 (or_fault_ok Form (cut_at 58 word) c.0 c.1)
          ∙ ap₂ (λ (x y : List ℕ). x ++ 58 ∷ y) ea ev
          ∙ sym (append_assoc (decimal t.asn) (codes ":") (decimal t.value));
    }

triple_back : (word : List ℕ) (raw : RawTag) → triple_of word ≡ Ok raw → Reads Second word raw
unfolding triple_of
triple_back word raw h =
    let c = bind_ok (or_fault Form (cut_at 58 word)) _ raw h in
    let d = bind_ok (or_fault Form (cut_at 58 c.0.1)) _ raw c.2 in
    let a = bind_ok (number_of c.0.0) _ raw d.2 in
    let m = bind_ok (number_of d.0.0) _ raw a.2 in
    let v = bind_ok (number_of d.0.1) _ raw m.2 in
    let same : raw_of a.0 m.0 v.0 ≡ raw = ok_same _ raw v.2 in
    record {
      asn = c.0.0;
      value = d.0.1;
      asn_is = a.1 ∙ ap (λ (q : RawTag). Ok q.asn) same;
      value_is = v.1 ∙ ap (λ (q : RawTag). Ok q.value) same;
      text = λ t ea ev zero.
          let middle : d.0.0 ≡ 48 ∷ [] = (number_back d.0.0 0 (m.1 ∙ ap (λ (q : RawTag). Ok q.middle) same ∙ ap Ok zero)).0 ∙ zero_text in
          cut_back 58 word c.0.0 c.0.1 (or_fault_ok Form (cut_at 58 word) c.0 c.1)
          ∙ ap₂ (λ (x y : List ℕ). x ++ 58 ∷ y) ea (cut_back 58 c.0.1 d.0.0 d.0.1 (or_fault_ok Form (cut_at 58 c.0.1) d.0 d.1) ∙ ap₂ (λ (x y : List ℕ). x ++ 58 ∷ y) middle ev)
          ∙ sym (append_assoc (decimal t.asn) (codes ":0:") (decimal t.value));
    }

reads_back : (e : Edition) (word : List ℕ) (raw : RawTag) → tag_of e word ≡ Ok raw → Reads e word raw
reads_back First word raw h = pair_back word raw h
reads_back Second word raw h = triple_back word raw h

pub tag_back : (e : Edition) (w : List ℕ) (raw : RawTag) (t : Tag) → tag_of e w ≡ Ok raw → tag_in_range e raw ≡ Ok t → (w ≡ tag_text e t) × IsTrue (fits_tag e t)
unfolding tag_in_range
tag_back e w raw t h r =
    let reads = reads_back e w raw h in
    let a = bind_ok (in_range raw.asn) _ t r in
    let m = bind_ok (in_range raw.middle) _ t a.2 in
    let v = bind_ok (in_range raw.value) _ t m.2 in
    let u = bind_ok (unless Number (m.0 == 0 && fits_tag e (tag_of_numbers a.0 v.0))) _ t v.2 in
    let same : tag_of_numbers a.0 v.0 ≡ t = ok_same _ t u.2 in
    let both = and_parts (m.0 == 0) (fits_tag e (tag_of_numbers a.0 v.0)) (unless_ok Number _ u.0 u.1) in
    let asn = (number_back reads.asn a.0 (reads.asn_is ∙ ap Ok (in_range_back raw.asn a.0 a.1))).0 in
    let value = (number_back reads.value v.0 (reads.value_is ∙ ap Ok (in_range_back raw.value v.0 v.1))).0 in
    let zero : raw.middle ≡ Value 0 = in_range_back raw.middle m.0 m.1 ∙ ap Value (eqb-true m.0 0 both.0) in
    (reads.text (tag_of_numbers a.0 v.0) asn value zero ∙ ap (tag_text e) same, subst (λ (q : Tag). IsTrue (fits_tag e q)) same both.1)

-- ---- what is written

abbrev pub raw_tag : Tag → RawTag
raw_tag t = raw_of (Value t.asn) (Value 0) (Value t.value)

tag_read : (e : Edition) (t : Tag) → t.asn < 2 ^ 32 → t.value < 2 ^ 32 → tag_of e (tag_text e t) ≡ Ok (raw_tag t)
unfolding pair_of triple_of
tag_read First t la lv =
    let cut : cut_at 58 (tag_text First t) ≡ Some (decimal t.asn, decimal t.value) =
    ap (cut_at 58) (append_assoc (decimal t.asn) (codes ":") (decimal t.value)) ∙ cut_at-there 58 (decimal t.asn) (decimal t.value) (no_colon t.asn (omega (arith, la))) in
    rw (cut, number_there t.asn la, number_there t.value lv) refl
tag_read Second t la lv =
    let rest : List ℕ = 48 ∷ (58 ∷ decimal t.value) in
    let cut : cut_at 58 (tag_text Second t) ≡ Some (decimal t.asn, rest) =
    ap (cut_at 58) (append_assoc (decimal t.asn) (codes ":0:") (decimal t.value)) ∙ cut_at-there 58 (decimal t.asn) rest (no_colon t.asn (omega (arith, la))) in
    let next : cut_at 58 rest ≡ Some (48 ∷ [], decimal t.value) = cut_at-there 58 (48 ∷ []) (decimal t.value) refl in
    let zero : number_of (48 ∷ []) ≡ Ok (Value 0) = ap number_of (sym zero_text) ∙ number_there 0 (omega arith) in
    rw (cut, next, number_there t.asn la, zero, number_there t.value lv) refl

pub tag_there : (e : Edition) (t : Tag) → IsTrue (fits_tag e t) → (tag_of e (tag_text e t) ≡ Ok (raw_tag t)) × (tag_in_range e (raw_tag t) ≡ Ok t)
unfolding tag_in_range
tag_there e t is =
    let low = tag_low e t is in
    let fits : fits_tag e t ≡ true = is in
    (tag_read e t low.0 low.1, rw fits refl)

solid_low : (e : Edition) (t : Tag) → t.asn < 2 ^ 32 → t.value < 2 ^ 32 → solid (tag_text e t) ≡ true
solid_low First t a v =
    solid_append (decimal t.asn ++ codes ":") (decimal t.value)
    (solid_append (decimal t.asn) (codes ":") (solid_number t.asn (omega (arith, a))) refl) (solid_number t.value (omega (arith, v)))
solid_low Second t a v =
    solid_append (decimal t.asn ++ codes ":0:") (decimal t.value)
    (solid_append (decimal t.asn) (codes ":0:") (solid_number t.asn (omega (arith, a))) refl) (solid_number t.value (omega (arith, v)))

pub solid_tag : (e : Edition) (t : Tag) → IsTrue (fits_tag e t) → solid (tag_text e t) ≡ true
solid_tag e t is = let low = tag_low e t is in solid_low e t low.0 low.1

-- ---- at the front of a text

-- both numbers of a tag are numbers of 32 bits
pub record IsShort (t : Tag) : Type 0 where
  pub asn : t.asn < 2 ^ 32
  pub value : t.value < 2 ^ 32

-- what stands between the numbers
abbrev between : Edition → List ℕ
between First = codes ":"
between Second = codes ":0:"

tag_parts : (e : Edition) (t : Tag) (rest : List ℕ) → tag_text e t ++ rest ≡ decimal t.asn ++ (between e ++ (decimal t.value ++ rest))
tag_parts First t rest = simp append_assoc refl
tag_parts Second t rest = simp append_assoc refl

between_stops : (e : Edition) (rest : List ℕ) → stops is_figure (between e ++ rest) ≡ true
between_stops First rest = refl
between_stops Second rest = refl

pub tag_cut : (e : Edition) (t u : Tag) (rest more : List ℕ) → IsShort t → IsShort u → stops is_figure rest ≡ true → stops is_figure more ≡ true
    → tag_text e t ++ rest ≡ tag_text e u ++ more → (t ≡ u) × (rest ≡ more)
tag_cut e t u rest more ht hu hr hm same =
    let parts = sym (tag_parts e t rest) ∙ same ∙ tag_parts e u more in
    let a = number_cut t.asn u.asn _ _ (omega (arith, ht.asn)) (omega (arith, hu.asn)) (between_stops e _) (between_stops e _) parts in
    let b = number_cut t.value u.value rest more (omega (arith, ht.value)) (omega (arith, hu.value)) hr hm (append_cancel_left (between e) _ _ a.1) in
    (ap₂ tag_of_numbers a.0 b.0, b.1)
