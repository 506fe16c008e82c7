-- What is read as a value is written as it, as deep as is read.
use Rattle.std.proofs.Common.{◌≡◌, ℕ, zero, suc, List, [], ◌∷◌, length, None, refl, sym, ◌∙◌}
use Rattle.json.specs.Token.{Token, bad}
use Rattle.json.specs.Json.{Items, Members, Parse, items, members, value_with, value}
use Rattle.json.specs.Lex.{fresh}
use Rattle.json_law.proofs.Places.{at, begin}
use Rattle.json_law.proofs.Parsed.{Sound, Refuses, Inner}
use Rattle.json_law.proofs.OneValue.{value_at}
use Rattle.json_law.proofs.InArrays.{array_left}
use Rattle.json_law.proofs.InObjects.{object_left}

abbrev nested_items : ℕ → Parse Items
nested_items zero ts = None
nested_items (suc d) ts = items (value d) (length ts) ts

abbrev nested_members : ℕ → Parse Members
nested_members zero ts = None
nested_members (suc d) ts = members (value d) (length ts) ts

value_is : (d : ℕ) (ts : List Token) → value d ts ≡ value_with (nested_items d) (nested_members d) ts
unfolding value
value_is zero ts = refl
value_is (suc d) ts = refl

not_there : (d : ℕ) → Refuses (value d)
not_there d = record {
  none = value_is d [];
  wrong = value_is d (bad ∷ []);
  object_end = λ ts. value_is d (Token.end_object ∷ ts);
}

inside : (d : ℕ) → Sound (value d) → Inner (nested_items (suc d)) (nested_members (suc d))
inside d sound = record {
  arrays = λ t js left h. array_left (value d) sound (not_there d) (length (at fresh t)) t js left (begin fresh t refl) h;
  objects = λ t ms left h. object_left (value d) sound (not_there d) (length (at fresh t)) t ms left (begin fresh t refl) h;
}

nothing_inside : Inner (nested_items zero) (nested_members zero)
nothing_inside = record { arrays = λ t js left h. absurd cc; objects = λ t ms left h. absurd cc }

pub value_sound : (d : ℕ) → Sound (value d)
value_sound zero p t j left may h = value_at (nested_items zero) (nested_members zero) nothing_inside p t j left (begin p t may) (sym (value_is zero (at p t)) ∙ h)
value_sound (suc d) p t j left may h =
    value_at (nested_items (suc d)) (nested_members (suc d)) (inside d (value_sound d)) p t j left (begin p t may) (sym (value_is (suc d) (at p t)) ∙ h)
