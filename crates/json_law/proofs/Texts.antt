-- A text that is read is written as its tree has it.
use Rattle.std.proofs.Common.{◌≡◌, ℕ, List, [], ◌∷◌, Some, refl, sym, ap, ◌∙◌}
use Rattle.std.specs.Prelude.{option_and_then}
use Rattle.list_law.proofs.Options.{option_and_then_parts}
use Rattle.json.specs.Token.{Token}
use Rattle.json.specs.Json.{Json, if_last, value}
use Rattle.json.specs.Lex.{tokens, fresh, after_value, after_comma}
use Rattle.serde_json.specs.Read.{max_depth, of_json}
use Rattle.json_law.specs.Grammar.{AreBlanks}
use Rattle.json_law.specs.Laws.{ReadTextsAreWritten}
use Rattle.json_law.proofs.Places.{at, Begin, Behind, begin, behind}
use Rattle.json_law.proofs.Values.{value_sound}

nothing_left : (j i : Json) (ts : List Token) → if_last j ts ≡ Some i → (ts ≡ []) × (j ≡ i)
nothing_left j i [] h = (refl, cc)
nothing_left j i (t ∷ ts) h = absurd cc

some_left : (k : Token) (ts xs : List Token) → xs ≡ k ∷ ts → xs ≡ [] → ⊥
some_left k ts xs e f = let z : k ∷ ts ≡ [] = sym e ∙ f in cc

never_ends : (t : List ℕ) → Begin after_comma t → at after_comma t ≡ [] → ⊥
never_ends t (Begin.end g e) f = absurd g
never_ends t (Begin.wrong e) f = some_left _ _ _ e f
never_ends t (Begin.leaf k j before w rest leaf written blanks is e) f = some_left _ _ _ e f
never_ends t (Begin.key s before w after rest written b c is e) f = some_left _ _ _ e f
never_ends t (Begin.array before rest blanks is e) f = some_left _ _ _ e f
never_ends t (Begin.object before rest blanks is e) f = some_left _ _ _ e f
never_ends t (Begin.array_end g before rest blanks is e) f = absurd g
never_ends t (Begin.object_end g before rest blanks is e) f = absurd g

only_blanks : (t : List ℕ) → Behind t → at after_value t ≡ [] → AreBlanks t
only_blanks t (Behind.end blanks e) f = blanks
only_blanks t (Behind.wrong e) f = absurd (some_left _ _ _ e f)
only_blanks t (Behind.more before rest blanks is e) f = absurd (never_ends rest (begin after_comma rest refl) (sym e ∙ f))
only_blanks t (Behind.array_end before rest blanks is e) f = absurd (some_left _ _ _ e f)
only_blanks t (Behind.object_end before rest blanks is e) f = absurd (some_left _ _ _ e f)

pub read_texts_are_written : ReadTextsAreWritten
read_texts_are_written bytes d h =
    let p = option_and_then_parts of_json (option_and_then (λ p. if_last p.0 p.1) (value max_depth (tokens bytes))) d h in
    let q = option_and_then_parts (λ p. if_last p.0 p.1) (value max_depth (tokens bytes)) p.0 p.1 in
    let last = nothing_left q.0.0 p.0 q.0.1 q.2 in
    let v = value_sound max_depth fresh bytes q.0.0 q.0.1 refl q.1 in (
      q.0.0,
      v.written,
      (v.before, v.rest, v.blanks, only_blanks v.rest (behind v.rest) (sym v.left_is ∙ last.0), v.is),
      v.stands,
      ap of_json last.1 ∙ p.2,
    )
