-- One value is written as it is read, where what is inside brackets is.
use Rattle.std.proofs.Common.{◌≡◌, ℕ, List, [], ◌∷◌, ◌++◌, Some, sym, ap, ◌∙◌, subst, append_assoc}
use Rattle.list_law.proofs.Options.{option_map_parts}
use Rattle.json.specs.Token.{Token}
use Rattle.json.specs.Json.{Json, Items, Members, Parse, parse_map, value_with}
use Rattle.json.specs.Lex.{Place, fresh, after_value}
use Rattle.json_law.specs.Grammar.{AreBlanks}
use Rattle.json_law.specs.Written.{IsWritten}
use Rattle.json_law.proofs.Fronts.{IsLeaf}
use Rattle.json_law.proofs.Places.{at, Begin}
use Rattle.json_law.proofs.Parsed.{Parsed, over, pair_first, Inner}

module _ (a : Parse Items) (o : Parse Members) (inner : Inner a o) where
  leaf_value : (k : Token) (i : Json) (before w rest t : List ℕ) → IsLeaf k i → IsWritten i w → AreBlanks before → t ≡ before ++ (w ++ rest) → (j : Json) (left : List Token)
      → value_with a o (k ∷ at after_value rest) ≡ Some (j, left) → Parsed j t left
  leaf_value Token.begin_object i before w rest t leaf said blanks is j left h = absurd leaf
  leaf_value Token.end_object i before w rest t leaf said blanks is j left h = absurd leaf
  leaf_value Token.begin_array i before w rest t leaf said blanks is j left h = absurd leaf
  leaf_value Token.end_array i before w rest t leaf said blanks is j left h = absurd leaf
  leaf_value (Token.key s) i before w rest t leaf said blanks is j left h = absurd leaf
  leaf_value (Token.string s) i before w rest t leaf said blanks is j left h =
      let p = pair_first (Json.string s) j (at after_value rest) left h in
      record { before = before; written = w; rest = rest; blanks = blanks; is = is; stands = subst (λ (x : Json). IsWritten x w) (leaf ∙ p.0) said; left_is = sym p.1 }
  leaf_value (Token.number s) i before w rest t leaf said blanks is j left h =
      let p = pair_first (Json.number s) j (at after_value rest) left h in
      record { before = before; written = w; rest = rest; blanks = blanks; is = is; stands = subst (λ (x : Json). IsWritten x w) (leaf ∙ p.0) said; left_is = sym p.1 }
  leaf_value (Token.boolean b) i before w rest t leaf said blanks is j left h =
      let p = pair_first (Json.boolean b) j (at after_value rest) left h in
      record { before = before; written = w; rest = rest; blanks = blanks; is = is; stands = subst (λ (x : Json). IsWritten x w) (leaf ∙ p.0) said; left_is = sym p.1 }
  leaf_value Token.null i before w rest t leaf said blanks is j left h =
      let p = pair_first Json.null j (at after_value rest) left h in
      record { before = before; written = w; rest = rest; blanks = blanks; is = is; stands = subst (λ (x : Json). IsWritten x w) (leaf ∙ p.0) said; left_is = sym p.1 }
  leaf_value Token.bad i before w rest t leaf said blanks is j left h = absurd leaf

  array_value : (t before rest : List ℕ) → AreBlanks before → t ≡ before ++ 91 ∷ rest → (j : Json) (left : List Token) → parse_map Json.array (a (at fresh rest)) ≡ Some (j, left) → Parsed j t left
  array_value t before rest blanks is j left h =
      let p = option_map_parts (λ q. (Json.array q.0, q.1)) (a (at fresh rest)) (j, left) h in
      let parts = pair_first (Json.array p.0.0) j p.0.1 left (ap Some p.2) in
      let l = inner.arrays rest p.0.0 p.0.1 p.1 in
      record {
        before = before;
        written = 91 ∷ l.inner ++ 93 ∷ [];
        rest = l.rest;
        blanks = blanks;
        is = is ∙ ap (λ u. before ++ 91 ∷ u) (l.is ∙ sym (append_assoc l.inner (93 ∷ []) l.rest));
        stands = subst (λ (x : Json). IsWritten x (91 ∷ l.inner ++ 93 ∷ [])) parts.0 (l.vs, l.array, l.written);
        left_is = sym parts.1 ∙ l.left_is;
      }

  object_value : (t before rest : List ℕ) → AreBlanks before → t ≡ before ++ 123 ∷ rest → (j : Json) (left : List Token) → parse_map Json.object (o (at fresh rest)) ≡ Some (j, left) → Parsed j t left
  object_value t before rest blanks is j left h =
      let p = option_map_parts (λ q. (Json.object q.0, q.1)) (o (at fresh rest)) (j, left) h in
      let parts = pair_first (Json.object p.0.0) j p.0.1 left (ap Some p.2) in
      let l = inner.objects rest p.0.0 p.0.1 p.1 in
      record {
        before = before;
        written = 123 ∷ l.inner ++ 125 ∷ [];
        rest = l.rest;
        blanks = blanks;
        is = is ∙ ap (λ u. before ++ 123 ∷ u) (l.is ∙ sym (append_assoc l.inner (125 ∷ []) l.rest));
        stands = subst (λ (x : Json). IsWritten x (123 ∷ l.inner ++ 125 ∷ [])) parts.0 (l.vs, l.object, l.written);
        left_is = sym parts.1 ∙ l.left_is;
      }

  pub value_at : (p : Place) (t : List ℕ) (j : Json) (left : List Token) → Begin p t → value_with a o (at p t) ≡ Some (j, left) → Parsed j t left
  value_at p t j left (Begin.end f e) h = absurd (let z = over (value_with a o) _ _ _ e h in cc)
  value_at p t j left (Begin.wrong e) h = absurd (let z = over (value_with a o) _ _ _ e h in cc)
  value_at p t j left (Begin.leaf k i before w rest leaf said blanks is e) h = leaf_value k i before w rest t leaf said blanks is j left (over (value_with a o) _ _ _ e h)
  value_at p t j left (Begin.key s before w after rest said b c is e) h = absurd (let z = over (value_with a o) _ _ _ e h in cc)
  value_at p t j left (Begin.array before rest blanks is e) h = array_value t before rest blanks is j left (over (value_with a o) _ _ _ e h)
  value_at p t j left (Begin.object before rest blanks is e) h = object_value t before rest blanks is j left (over (value_with a o) _ _ _ e h)
  value_at p t j left (Begin.array_end g before rest blanks is e) h = absurd (let z = over (value_with a o) _ _ _ e h in cc)
  value_at p t j left (Begin.object_end g before rest blanks is e) h = absurd (let z = over (value_with a o) _ _ _ e h in cc)
