-- What tokens begin with.
use Rattle.std.proofs.Common.{◌≡◌, ℕ, ◌+◌, ◌-◌, ◌<◌, ◌≤◌, ◌^◌, List, [], ◌∷◌, ◌++◌, length, Bool, false, Option, Some, None, option_map, Result, Ok, refl, sym, ap, ◌∙◌, append_assoc, append-nil, lt-ltb, arith}
use Rattle.std.specs.Prelude.{SomeIff, IfSome}
use Rattle.std.specs.Option.{option_map_or}
use Rattle.fast_float.specs.Text.{Parts, IsInteger, digits_of}
use Rattle.json.specs.Token.{Token}
use Rattle.json.specs.Json as json
use Rattle.json.specs.Json.{value, items, members, parse_map, after_end_array, read_key}
use Rattle.json.proofs.Grammar.{left, value_is, value-begin_array, value-begin_object, read_key-shorter, skip_value-shorter, items_end, items_more, members_end, members_more}
use Rattle.serde_json.specs.Data.{Data, Num, unsigned, boolean, number, string, array, object, Members, no_members, put}
use Rattle.serde_json.specs.Read.{number_of as written_number, number_from, of_items, of_members}
use Rattle.serde_json.specs.View.{items_of}
use Rattle.json_values.proofs.JsonLists.{list_of-items_of}
use Rattle.net_base.specs.Steps.{each_from}
use Rattle.evidence_text.specs.declared.fault.EvidenceFault.{EvidenceFault}
use Rattle.evidence_text.specs.declared.parts.Field.{Field}
use Rattle.evidence_text.specs.Entries.{within}
use Rattle.evidence_text.specs.Shape.{each, number_of}
use Rattle.evidence_text.specs.Tokens.{IsFirst, Begins, array_of}

-- ---- whole numbers

pub some_same : {T : Type 0} (x y : T) → Some x ≡ Some y → x ≡ y
some_same x y is = ap (λ o. option_map_or (λ v. v) o x) is

pub some_weaker : {T : Type 0} (P Q : T → Type 0) → ((x : T) → P x → Q x) → (o : Option T) → IfSome o P → IfSome o Q
some_weaker P Q f None h = tt
some_weaker P Q f (Some x) h = f x h

pub whole_number : (p : Parts) (o : Option ℕ) → SomeIff o (IsInteger p × (digits_of p < 2 ^ 64)) (digits_of p) → IfSome o (λ n. number_from false p ≡ Some (unsigned n))
whole_number p None h = tt
whole_number p (Some n) h = rw (lt-ltb _ _ h.0.0.0, h.0.0.1, h.0.0.2, lt-ltb _ _ h.0.1, h.1) refl

pub number_within : (least most n : ℕ) (o : Option ℕ) → o ≡ within least most n → IfSome o (λ k. (f : Field) → number_of f least most (number (unsigned n)) ≡ Ok (Some k))
unfolding number_of
number_within least most n None e = tt
number_within least most n (Some k) e = λ f. ap Ok (sym e)

-- ---- values without brackets

pub number_first : (depth : ℕ) (s : List ℕ) (ts : List Token) (n : Num) → written_number s ≡ Some n → IsFirst depth (Token.number s ∷ ts) (number n) ts
number_first depth s ts n is = (json.number s, value_is depth (Token.number s ∷ ts), ap (option_map number) is)

pub string_first : (depth : ℕ) (s : List ℕ) (ts : List Token) → IsFirst depth (Token.string s ∷ ts) (string s) ts
string_first depth s ts = (json.string s, value_is depth (Token.string s ∷ ts), refl)

pub boolean_at : (depth : ℕ) (b : Bool) (ts rest : List Token) → ts ≡ Token.boolean b ∷ rest → IsFirst depth ts (boolean b) rest
boolean_at depth b ts rest is = rw is (json.boolean b, value_is depth (Token.boolean b ∷ rest), refl)

-- ---- a value takes a token, and isn't the end of an array

shorter : (depth : ℕ) (ts : List Token) (d : Data) (rest : List Token) → IsFirst depth ts d rest → length rest < length ts
shorter depth ts d rest is = skip_value-shorter depth ts rest (ap left is.1)

not_ended : (depth : ℕ) (ts : List Token) (d : Data) (rest : List Token) → IsFirst depth ts d rest → after_end_array ts ≡ None
not_ended depth [] d rest is = refl
not_ended depth (Token.begin_object ∷ ts) d rest is = refl
not_ended depth (Token.end_object ∷ ts) d rest is = refl
not_ended depth (Token.begin_array ∷ ts) d rest is = refl
not_ended depth (Token.end_array ∷ ts) d rest is = absurd (let never = sym (value_is depth (Token.end_array ∷ ts)) ∙ is.1 in cc)
not_ended depth (Token.key s ∷ ts) d rest is = refl
not_ended depth (Token.string s ∷ ts) d rest is = refl
not_ended depth (Token.number s ∷ ts) d rest is = refl
not_ended depth (Token.boolean b ∷ ts) d rest is = refl
not_ended depth (Token.null ∷ ts) d rest is = refl
not_ended depth (Token.bad ∷ ts) d rest is = refl

-- ---- arrays

-- these values stand there, and then a bracket that closes their array
abbrev pub AreItems : ℕ → List Token → List Data → List Token → Type 0
AreItems depth ts [] rest = after_end_array ts ≡ Some rest
AreItems depth ts (d ∷ ds) rest = (mid : List Token) × IsFirst depth ts d mid × AreItems depth mid ds rest

items_first : (depth n : ℕ) (ts : List Token) (ds : List Data) (rest : List Token) → length ts ≤ n → AreItems depth ts ds rest
    → (js : json.Items) × (items (value depth) n ts ≡ Some (js, rest)) × (of_items js ≡ Some (items_of ds))
items_first depth n ts [] rest enough are = (json.no_items, items_end (value depth) n ts rest enough are, refl)
items_first depth n ts (d ∷ ds) rest enough are =
    let less = shorter depth ts d are.0 are.1 in
    let more = items_first depth (n - 1) are.0 ds rest (omega (arith, less, enough)) are.2 in (
      json.item are.1.0 more.0,
      items_more (value depth) n ts are.0 are.1.0 (omega (arith, less, enough)) (not_ended depth ts d are.0 are.1) are.1.1 ∙ ap (parse_map (json.item are.1.0)) more.1,
      rw (are.1.2, more.2) refl,
    )

pub array_first : (depth : ℕ) (ts : List Token) (ds : List Data) (rest : List Token) → 0 < depth → AreItems (depth - 1) ts ds rest → IsFirst depth (Token.begin_array ∷ ts) (array (items_of ds)) rest
array_first depth ts ds rest some are =
    let all = items_first (depth - 1) (length ts) ts ds rest (omega arith) are in
    (json.array all.0, value-begin_array depth ts some ∙ ap (parse_map json.array) all.1, ap (option_map array) all.2)

-- ---- arrays of items of one kind

module _ {T : Type 0} (open_at_once : ℕ) (says : Data → Result T EvidenceFault) where
  -- values that say these, and then the bracket
  abbrev pub Listed : List Token → List T → List Token → Type 0
  Listed ts [] rest = after_end_array ts ≡ Some rest
  Listed ts (x ∷ xs) rest = (mid : List Token) × Begins open_at_once says ts x mid × Listed mid xs rest

  listed_items : (depth k : ℕ) (ts : List Token) (xs : List T) (rest : List Token) → open_at_once ≤ depth → Listed ts xs rest
      → (ds : List Data) × AreItems depth ts ds rest × (each_from (λ _. says) k ds ≡ Ok xs)
  listed_items depth k ts [] rest deep are = ([], are, refl)
  listed_items depth k ts (x ∷ xs) rest deep are =
      let first = are.1 depth deep in
      let more = listed_items depth (k + 1) are.0 xs rest deep are.2 in
      (first.0 ∷ more.0, (are.0, first.1, more.1), rw (first.2, more.2) refl)

  pub listed : (f : Field) (ts : List Token) (xs : List T) (rest : List Token) → Listed ts xs rest → Begins (open_at_once + 1) (array_of f (each says)) (Token.begin_array ∷ ts) xs rest
  listed f ts xs rest are depth deep =
      let all = listed_items (depth - 1) 1 ts xs rest (omega (arith, deep)) are in
      (array (items_of all.0), array_first depth ts all.0 rest (omega (arith, deep)) all.1, rw (list_of-items_of all.0) all.2)

  -- ---- items that are read one after another

  -- what was listed so far, of a list that goes on here
  abbrev pub GoesOn : List Token → List T → List Token → Type 0
  GoesOn whole front here = (xs : List T) (rest : List Token) → Listed here xs rest → Listed whole (front ++ xs) rest

  pub goes_on : (whole here : List Token) (front : List T) (x : T) (next : List Token) → GoesOn whole front here → Begins open_at_once says here x next → GoesOn whole (front ++ x ∷ []) next
  goes_on whole here front x next so_far first = λ xs rest more. rw (append_assoc front (x ∷ []) xs) (so_far (x ∷ xs) rest (next, first, more))

  pub all_listed : (f : Field) (old whole here rest : List Token) (front : List T) → old ≡ Token.begin_array ∷ whole → GoesOn whole front here → after_end_array here ≡ Some rest
      → Begins (open_at_once + 1) (array_of f (each says)) old front rest
  all_listed f old whole here rest front opened so_far closed =
      rw opened (listed f whole front rest (rw (append-nil front) at (so_far [] rest closed)))

  pub fewer : (ts : List Token) (x : T) (rest : List Token) → Begins open_at_once says ts x rest → length rest < length ts
  fewer ts x rest is = let d = is open_at_once (omega arith) in shorter open_at_once ts d.0 rest d.1

-- ---- objects

-- these keys stand there with these values, and then a brace that closes their object
abbrev pub AreMembers : ℕ → List Token → List (List ℕ × Data) → List Token → Type 0
AreMembers depth ts [] rest = read_key ts ≡ Some (None, rest)
AreMembers depth ts (m ∷ ms) rest = (here mid : List Token) × (read_key ts ≡ Some (Some m.0, here)) × IsFirst depth here m.1 mid × AreMembers depth mid ms rest

abbrev pub put_all : List (List ℕ × Data) → Members → Members
put_all [] found = found
put_all (m ∷ ms) found = put_all ms (put m.0 m.1 found)

members_first : (depth n : ℕ) (ts : List Token) (ms : List (List ℕ × Data)) (rest : List Token) (found : Members) → length ts ≤ n → AreMembers depth ts ms rest
    → (js : json.Members) × (members (value depth) n ts ≡ Some (js, rest)) × (of_members js found ≡ Some (put_all ms found))
members_first depth n ts [] rest found enough are = (json.no_members, members_end (value depth) n ts rest enough are, refl)
members_first depth n ts (m ∷ ms) rest found enough are =
    let key = read_key-shorter ts (Some m.0) are.0 are.2 in
    let less = shorter depth are.0 m.1 are.1 are.3 in
    let more = members_first depth (n - 1) are.1 ms rest (put m.0 m.1 found) (omega (arith, key, less, enough)) are.4 in (
      json.member m.0 are.3.0 more.0,
      members_more (value depth) n m.0 ts are.0 are.1 are.3.0 (omega (arith, key, enough)) are.2 are.3.1 ∙ ap (parse_map (json.member m.0 are.3.0)) more.1,
      rw (are.3.2, more.2) refl,
    )

pub object_first : (depth : ℕ) (ts : List Token) (ms : List (List ℕ × Data)) (rest : List Token) → 0 < depth → AreMembers (depth - 1) ts ms rest
    → IsFirst depth (Token.begin_object ∷ ts) (object (put_all ms no_members)) rest
object_first depth ts ms rest some are =
    let all = members_first (depth - 1) (length ts) ts ms rest no_members (omega arith) are in
    (json.object all.0, value-begin_object depth ts some ∙ ap (parse_map json.object) all.1, ap (option_map object) all.2)
