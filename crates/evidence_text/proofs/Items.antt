-- Items that are written one after another.
use Rattle.std.proofs.Common.{◌≡◌, ℕ, zero, suc, ◌+◌, ◌^◌, ◌<◌, ◌≤◌, Bool, true, List, [], ◌∷◌, ◌++◌, length, map, take, drop, subst, get_or, Result, Ok, Err, refl, sym}
use Rattle.std.proofs.Common.{ap, ◌∙◌, append-nil, append_assoc, add-one, arith}
use Rattle.std.specs.Prelude.{nat_lt, codes, OnOk, ⊤}
use Rattle.std.proofs.lemmas.Bool.{lt-ltb}
use Rattle.std.proofs.lemmas.List.{drop_all}
use Rattle.std.specs.List.{AllByRecursion}
use Rattle.std.specs.Fmt.{decimal, digits}
use Rattle.json.specs.Print.{escape_byte}
use Rattle.json_values.specs.Json.{array_of, numbers_data, texts_data}
use Rattle.json_values.proofs.ItemsRead.{drop_here}
use Rattle.net_base.specs.Prefixes.{PlainPrefix}
use Rattle.net_base.specs.declared.numbers.Tag.{Tag}
use Rattle.graph_base.specs.declared.graph.Node.{Node}
use Rattle.text_parts.specs.Texts.{prefix_text}
use Rattle.evidence_base.specs.Made.{PlainCaseEvidence}
use Rattle.evidence_text.specs.Writable.{IsShort}
use Rattle.evidence_text.specs.Text.{case_data, evidence_data, evidence_text, members, nodes_data, places_text, step_data, ways_text}
use Rattle.serde_json.specs.Data.{Data, boolean, string}
use Rattle.serde_json.specs.View.{items_of}
use Rattle.serde_json.specs.Written.{comma_if, compact_text, items_text}

-- the items from a place on, with a comma before each but the first of all
abbrev pub rest_text : ℕ → List Data → List ℕ
rest_text i ds = items_text (nat_lt 0 i) (items_of ds)

later : (i : ℕ) → nat_lt 0 (i + 1) ≡ true
later i = lt-ltb 0 (i + 1) (omega arith)

-- the item here is written
pub rest_text-cons : (i : ℕ) (d : Data) (ds : List Data) (text : List ℕ) → ((text ++ comma_if (nat_lt 0 i)) ++ compact_text d) ++ rest_text (i + 1) ds ≡ text ++ rest_text i (d ∷ ds)
rest_text-cons i d ds text =
    append_assoc (text ++ comma_if (nat_lt 0 i)) (compact_text d) (rest_text (i + 1) ds)
    ∙ append_assoc text (comma_if (nat_lt 0 i)) (compact_text d ++ rest_text (i + 1) ds)
    ∙ ap (λ b. text ++ (comma_if (nat_lt 0 i) ++ (compact_text d ++ items_text b (items_of ds)))) (later i)

module _ {X : Type 0} (f : X → Data) (xs : List X) (i : ℕ) (x : X) (within : i < length xs) (is : x ≡ get_or xs i x) where
  pub one_more : (text new whole : List ℕ) → new ≡ (text ++ comma_if (nat_lt 0 i)) ++ compact_text (f x) → text ++ rest_text i (map f (drop i xs)) ≡ whole
      → new ++ rest_text (i + 1) (map f (drop (i + 1) xs)) ≡ whole
  one_more text new whole made before =
      ap (λ t. t ++ rest_text (i + 1) (map f (drop (i + 1) xs))) made ∙ rest_text-cons i (f x) (map f (drop (i + 1) xs)) text
      ∙ ap (λ ys. text ++ rest_text i (map f ys)) (sym (drop_here xs i x within is)) ∙ before

-- none is left
all_written : {X : Type 0} (f : X → Data) (xs : List X) (i : ℕ) → length xs ≤ i → (text whole : List ℕ) → text ++ rest_text i (map f (drop i xs)) ≡ whole → text ++ 93 ∷ [] ≡ whole
all_written f xs i past text whole before = ap (λ ys. text ++ rest_text i (map f ys)) (sym (drop_all i xs past)) ∙ before

-- and so the array is
pub array_written : {X : Type 0} (f : X → Data) (xs : List X) (i : ℕ) → length xs ≤ i → (text opened last new : List ℕ) → opened ≡ text ++ 91 ∷ []
    → last ++ rest_text i (map f (drop i xs)) ≡ opened ++ rest_text 0 (map f xs) → new ≡ last ++ 93 ∷ [] → new ≡ text ++ compact_text (array_of (map f xs))
array_written f xs i past text opened last new first before end =
    end ∙ all_written f xs i past last (opened ++ rest_text 0 (map f xs)) before ∙ ap (λ (t : List ℕ). t ++ rest_text 0 (map f xs)) first
    ∙ append_assoc text (91 ∷ []) (rest_text 0 (map f xs))

abbrev pub prefix_data : PlainPrefix → Data
prefix_data p = string (prefix_text p)

pub texts-prefixes : (ps : List PlainPrefix) → map string (map prefix_text ps) ≡ map prefix_data ps
texts-prefixes [] = refl
texts-prefixes (p ∷ ps) = ap (λ ds. prefix_data p ∷ ds) (texts-prefixes ps)

-- one piece, and then the others
pub and_then : (old here new piece others : List ℕ) → here ≡ old ++ piece → new ≡ here ++ others → new ≡ old ++ (piece ++ others)
and_then old here new piece others first rest = rest ∙ ap (λ t. t ++ others) first ∙ append_assoc old piece others

-- the pieces of a case as far as its prefixes
pub places_as : (c : PlainCaseEvidence) (external : Bool) (nodes : List Node) (numbers : List ℕ) (tags : List Tag) (origins : List ℕ) (prefixes : List PlainPrefix)
    → external ≡ c.case.external → nodes ≡ c.graph.nodes → numbers ≡ c.numbers → tags ≡ c.tags → origins ≡ members c.case.origins → prefixes ≡ c.case.prefixes
    → codes "{\"external\":" ++ (compact_text (boolean external)
    ++ (codes ",\"nodes\":" ++ (compact_text (array_of (nodes_data nodes numbers tags))
    ++ (codes ",\"origins\":" ++ (compact_text (numbers_data origins)
    ++ (codes ",\"prefixes\":" ++ (compact_text (texts_data (map prefix_text prefixes)) ++ [])))))))
    ≡ places_text c
places_as c external nodes numbers tags origins prefixes e1 e2 e3 e4 e5 e6 =
    λ i. codes "{\"external\":" ++ (compact_text (boolean (e1 i))
    ++ (codes ",\"nodes\":" ++ (compact_text (array_of (nodes_data (e2 i) (e3 i) (e4 i)))
    ++ (codes ",\"origins\":" ++ (compact_text (numbers_data (e5 i))
    ++ (codes ",\"prefixes\":" ++ append-nil (compact_text (texts_data (map prefix_text (e6 i)))) i))))))

-- and from its starts on
pub ways_as : (c : PlainCaseEvidence) (starts : List ℕ) (statement : ℕ) (steps : List (ℕ × ℕ))
    → starts ≡ c.graph.starts → statement ≡ c.case.statement → steps ≡ c.graph.steps
    → codes ",\"starts\":" ++ (compact_text (numbers_data starts)
    ++ (codes ",\"statement\":" ++ (decimal statement
    ++ (codes ",\"steps\":" ++ (compact_text (array_of (map step_data steps))
    ++ codes "}")))))
    ≡ ways_text c
ways_as c starts statement steps e1 e2 e3 =
    λ i. codes ",\"starts\":" ++ (compact_text (numbers_data (e1 i))
    ++ (codes ",\"statement\":" ++ (decimal (e2 i)
    ++ (codes ",\"steps\":" ++ (compact_text (array_of (map step_data (e3 i)))
    ++ codes "}")))))

eight : (a b c d e f g h others : List ℕ) → (a ++ (b ++ (c ++ (d ++ (e ++ (f ++ (g ++ h))))))) ++ others ≡ a ++ (b ++ (c ++ (d ++ (e ++ (f ++ (g ++ (h ++ others)))))))
eight a b c d e f g h others = simp append_assoc

-- both are the text of the case
halves : (c : PlainCaseEvidence) → places_text c ++ ways_text c ≡ compact_text (case_data c)
unfolding case_data escape_byte
halves c =
    eight (codes "{\"external\":") (compact_text (boolean c.case.external))
    (codes ",\"nodes\":") (compact_text (array_of (nodes_data c.graph.nodes c.numbers c.tags)))
    (codes ",\"origins\":") (compact_text (numbers_data (members c.case.origins)))
    (codes ",\"prefixes\":") (compact_text (texts_data (map prefix_text c.case.prefixes)))
    (ways_text c)

pub case_pushed : (c : PlainCaseEvidence) (old here new : List ℕ) → here ≡ old ++ places_text c → new ≡ here ++ ways_text c → new ≡ old ++ compact_text (case_data c)
case_pushed c old here new first rest = and_then old here new (places_text c) (ways_text c) first rest ∙ ap (λ t. old ++ t) (halves c)

one_written : decimal 1 ≡ codes "1"
unfolding digits
one_written = refl

whole_text : (cs : List PlainCaseEvidence) → codes "{\"cases\":" ++ (compact_text (array_of (map case_data cs)) ++ codes ",\"version\":1}\n") ≡ evidence_text cs
unfolding evidence_data escape_byte
whole_text cs =
    let cases = compact_text (array_of (map case_data cs)) in
    ap (λ one. codes "{\"cases\":" ++ (cases ++ (codes ",\"version\":" ++ (one ++ codes "}\n")))) (sym one_written)
    ∙ ap (λ t. codes "{\"cases\":" ++ t) (sym (append_assoc cases (codes ",\"version\":" ++ (decimal 1 ++ codes "}")) (codes "\n")
    ∙ ap (λ t. cases ++ (codes ",\"version\":" ++ t)) (append_assoc (decimal 1) (codes "}") (codes "\n"))))

pub whole_pushed : (cs : List PlainCaseEvidence) (t1 t2 t3 : List ℕ) → t1 ≡ codes "{\"cases\":"
    → t2 ≡ t1 ++ compact_text (array_of (map case_data cs)) → t3 ≡ t2 ++ codes ",\"version\":1}\n" → t3 ≡ evidence_text cs
whole_pushed cs t1 t2 t3 first second third =
    let cases = compact_text (array_of (map case_data cs)) in
    and_then t1 t2 t3 cases (codes ",\"version\":1}\n") second third ∙ ap (λ t. t ++ (cases ++ codes ",\"version\":1}\n")) first ∙ whole_text cs

-- one more item of a list is as the items before it
one_kept_after : {X : Type 0} (P : X → Type 0) (xs : List X) (i : ℕ) (x : X) → i < length xs → x ≡ get_or xs i x → AllByRecursion P (take i xs) → P x → AllByRecursion P (take (suc i) xs)
one_kept_after P [] i x within is all px = absurd (omega (arith, within))
one_kept_after P (y ∷ ys) zero x within is all px = (subst P is px, tt)
one_kept_after P (y ∷ ys) (suc i) x within is all px = (all.0, one_kept_after P ys i x (omega (arith, within)) is all.1 px)

pub one_kept : {X : Type 0} (P : X → Type 0) (xs : List X) (i : ℕ) (x : X) → i < length xs → x ≡ get_or xs i x → AllByRecursion P (take i xs) → P x → AllByRecursion P (take (i + 1) xs)
one_kept P xs i x within is all px = rw (add-one) (one_kept_after P xs i x within is all px)

-- every item of a list of numbers of 32 bits is one
pub all_short : (ns : List ℕ) → ((i : ℕ) → get_or ns i 0 < 2 ^ 32) → AllByRecursion IsShort ns
all_short [] fit = tt
all_short (n ∷ ns) fit = (fit 0, all_short ns (λ i. fit (suc i)))

-- what holds, holds also where a call ended well
pub on_ok : {E : Type 0} (P : Type 0) (r : Result ⊤ E) → P → OnOk r P
on_ok P (Ok x) h = h
on_ok P (Err e) h = tt
