-- A plain value is read again from its text, with a line feed behind it.
use Rattle.std.proofs.Common.{◌≡◌, ℕ, suc, max, ◌≤◌, ◌<◌, ◌^◌, Bool, true, false, IsUtf8, List, [], ◌∷◌, ◌++◌, Some, option_map, option_and_then, refl, sym, ap, ap₂, ◌∙◌, append-nil, subst}
use Rattle.std.specs.Fmt.{decimal}
use Rattle.std.proofs.lemmas.Fmt.{IsAscii-decimal}
use Rattle.std.proofs.lemmas.Str.{IsUtf8-append, IsUtf8-nil, IsUtf8-from_ascii}
use Rattle.json.specs.Lex.{tokens}
use Rattle.json.specs.Print.{quoted}
use Rattle.json.proofs.Printed.Utf8.{IsUtf8-are_ascii, IsUtf8-quoted, IsUtf8-boolean}
use Rattle.json.specs.Json as json
use Rattle.json.specs.Tree as tree
use Rattle.json.proofs.Printed.Trees.{value-json_tokens, ArePrintable-json_tokens}
use Rattle.json.proofs.Printed.Decimals.{IsNumber-decimal}
use Rattle.serde_json.specs.Data.{unsigned, negative, float, Data, null, boolean, number, string, array, object, Items, no_items, item, Members, no_members, member, put}
use Rattle.serde_json.specs.Data.{depth, items_depth, members_depth}
use Rattle.serde_json.specs.Read.{of_json, of_items, of_members, max_depth, read}
use Rattle.serde_json.specs.Written.{outline, items_outline, members_outline, comma_if, compact_text, items_text, members_text}
use Rattle.serde_json.proofs.Numbers.{number_of-decimal}
use Rattle.serde_json.proofs.Texts.{print-outline}
use Rattle.json_values.specs.Plain.{AreAfter, IsPlain, ArePlain, AreOrdered}
use Rattle.json_values.specs.Json.{json_of}
use Rattle.json_values.proofs.JsonTexts.{json_of-read}
use Rattle.json_values.proofs.Line.{tokens-print_line}

mutual
  numbers : (d : Data) → IsPlain d → tree.HasNumbers (outline d)
  numbers null h = tt
  numbers (boolean b) h = tt
  numbers (number (unsigned n)) h = IsNumber-decimal n h
  numbers (number (negative z)) h = absurd h
  numbers (number (float x)) h = absurd h
  numbers (string s) h = tt
  numbers (array ds) h = items_numbers ds h
  numbers (object ms) h = members_numbers ms h

  items_numbers : (ds : Items) → ArePlain ds → tree.ItemsHaveNumbers (items_outline ds)
  items_numbers no_items h = tt
  items_numbers (item d ds) h = (numbers d h.0, items_numbers ds h.1)

  members_numbers : (ms : Members) → AreOrdered ms → tree.MembersHaveNumbers (members_outline ms)
  members_numbers no_members h = tt
  members_numbers (member k d ms) h = (numbers d h.1, members_numbers ms h.3)

mutual
  as_deep : (d : Data) → tree.depth (outline d) ≡ depth d
  as_deep null = refl
  as_deep (boolean b) = refl
  as_deep (number n) = refl
  as_deep (string s) = refl
  as_deep (array ds) = ap suc (items_as_deep ds)
  as_deep (object ms) = ap suc (members_as_deep ms)

  items_as_deep : (ds : Items) → tree.items_depth (items_outline ds) ≡ items_depth ds
  items_as_deep no_items = refl
  items_as_deep (item d ds) = ap₂ max (as_deep d) (items_as_deep ds)

  members_as_deep : (ms : Members) → tree.members_depth (members_outline ms) ≡ members_depth ms
  members_as_deep no_members = refl
  members_as_deep (member k d ms) = ap₂ max (as_deep d) (members_as_deep ms)

-- ---- members go in one behind another

abbrev joined : Members → Members → Members
joined no_members ms = ms
joined (member k d found) ms = member k d (joined found ms)

-- each key comes after all that are found
abbrev FoundBefore : Members → Members → Type 0
FoundBefore no_members ms = Unit {0}
FoundBefore (member k d found) ms = AreAfter k ms × FoundBefore found ms

put-last : (found : Members) (k : List ℕ) (d : Data) (ms : Members) → FoundBefore found (member k d ms) → put k d found ≡ joined found (member k d no_members)
put-last no_members k d ms h = refl
put-last (member l e found) k d ms h = rw h.0.0 (ap (member l e) (put-last found k d ms h.1))

found_more : (found : Members) (k : List ℕ) (d : Data) (ms : Members) → FoundBefore found (member k d ms) → AreAfter k ms → FoundBefore (joined found (member k d no_members)) ms
found_more no_members k d ms h after = (after, tt)
found_more (member l e found) k d ms h after = (h.0.1, found_more found k d ms h.1 after)

joined_assoc : (found : Members) (k : List ℕ) (d : Data) (ms : Members) → joined (joined found (member k d no_members)) ms ≡ joined found (member k d ms)
joined_assoc no_members k d ms = refl
joined_assoc (member l e found) k d ms = ap (member l e) (joined_assoc found k d ms)

joined-none : (found : Members) → joined found no_members ≡ found
joined-none no_members = refl
joined-none (member k d found) = ap (member k d) (joined-none found)

mutual
  of_outline : (d : Data) → IsPlain d → of_json (outline d) ≡ Some d
  of_outline null h = refl
  of_outline (boolean b) h = refl
  of_outline (number (unsigned n)) h = ap (option_map number) (number_of-decimal n h)
  of_outline (number (negative z)) h = absurd h
  of_outline (number (float x)) h = absurd h
  of_outline (string s) h = refl
  of_outline (array ds) h = ap (option_map array) (of_items_outline ds h)
  of_outline (object ms) h = ap (option_map object) (of_members_outline ms no_members h tt)

  of_items_outline : (ds : Items) → ArePlain ds → of_items (items_outline ds) ≡ Some ds
  of_items_outline no_items h = refl
  of_items_outline (item d ds) h =
      ap (option_and_then (λ e. option_map (item e) (of_items (items_outline ds)))) (of_outline d h.0) ∙ ap (option_map (item d)) (of_items_outline ds h.1)

  of_members_outline : (ms found : Members) → AreOrdered ms → FoundBefore found ms → of_members (members_outline ms) found ≡ Some (joined found ms)
  of_members_outline no_members found h before = ap Some (sym (joined-none found))
  of_members_outline (member k d ms) found h before =
      ap (option_and_then (λ e. of_members (members_outline ms) (put k e found))) (of_outline d h.1)
      ∙ ap (of_members (members_outline ms)) (put-last found k d ms before)
      ∙ of_members_outline ms (joined found (member k d no_members)) h.3 (found_more found k d ms before h.2)
      ∙ ap Some (joined_assoc found k d ms)

read_again : (d : Data) → IsPlain d → depth d ≤ 127 → read (compact_text d ++ 10 ∷ []) ≡ Some d
read_again d plain shallow =
    let js = outline d in
    let same : tokens (compact_text d ++ 10 ∷ []) ≡ tree.json_tokens js
    = ap (λ t. tokens (t ++ 10 ∷ [])) (sym (print-outline d)) ∙ tokens-print_line (tree.json_tokens js) (ArePrintable-json_tokens js (numbers d plain)) in
    let deep : tree.depth js ≤ max_depth = subst (λ n. n ≤ 127) (sym (as_deep d)) shallow in
    ap (option_and_then of_json)
    (ap (option_and_then (λ p. json.if_last p.0 p.1)) (ap (json.value max_depth) (same ∙ sym (append-nil (tree.json_tokens js))) ∙ value-json_tokens js max_depth [] deep))
    ∙ of_outline d plain

-- ---- the text is UTF-8

IsUtf8-decimal : (n : ℕ) → n < 2 ^ 64 → IsUtf8 (decimal n)
IsUtf8-decimal n fits = IsUtf8-from_ascii (decimal n) (IsAscii-decimal n fits)

comma_text : (later : Bool) → IsUtf8 (comma_if later)
comma_text true = IsUtf8-are_ascii (44 ∷ []) refl
comma_text false = IsUtf8-nil

mutual
  text_of : (d : Data) → IsPlain d → IsUtf8 (compact_text d)
  text_of null h = IsUtf8-are_ascii _ refl
  text_of (boolean b) h = IsUtf8-boolean b
  text_of (number (unsigned n)) h = IsUtf8-decimal n h
  text_of (number (negative z)) h = absurd h
  text_of (number (float x)) h = absurd h
  text_of (string s) h = IsUtf8-quoted s h
  text_of (array ds) h = IsUtf8-append (91 ∷ []) (items_text false ds) (IsUtf8-are_ascii (91 ∷ []) refl) (items_text_of false ds h)
  text_of (object ms) h = IsUtf8-append (123 ∷ []) (members_text false ms) (IsUtf8-are_ascii (123 ∷ []) refl) (members_text_of false ms h)

  items_text_of : (later : Bool) (ds : Items) → ArePlain ds → IsUtf8 (items_text later ds)
  items_text_of later no_items h = IsUtf8-are_ascii (93 ∷ []) refl
  items_text_of later (item d ds) h =
      IsUtf8-append (comma_if later) (compact_text d ++ items_text true ds) (comma_text later) (IsUtf8-append (compact_text d) (items_text true ds) (text_of d h.0) (items_text_of true ds h.1))

  members_text_of : (later : Bool) (ms : Members) → AreOrdered ms → IsUtf8 (members_text later ms)
  members_text_of later no_members h = IsUtf8-are_ascii (125 ∷ []) refl
  members_text_of later (member k d ms) h =
      let rest = compact_text d ++ members_text true ms in
      IsUtf8-append (comma_if later) (quoted k ++ 58 ∷ rest) (comma_text later)
      (IsUtf8-append (quoted k) (58 ∷ rest) (IsUtf8-quoted k h.0)
      (IsUtf8-append (58 ∷ []) rest (IsUtf8-are_ascii (58 ∷ []) refl) (IsUtf8-append (compact_text d) (members_text true ms) (text_of d h.1) (members_text_of true ms h.3))))

pub json_of-line : (d : Data) → IsPlain d → depth d ≤ 127 → json_of (compact_text d ++ 10 ∷ []) ≡ Some d
json_of-line d plain shallow =
    json_of-read (compact_text d ++ 10 ∷ []) d (IsUtf8-append (compact_text d) (10 ∷ []) (text_of d plain) (IsUtf8-are_ascii (10 ∷ []) refl)) (read_again d plain shallow)
