-- What is read inside an array is written as its items.
use Rattle.std.proofs.Common.{◌≡◌, ℕ, zero, suc, List, [], ◌∷◌, ◌++◌, true, Some, None, ◌⊎◌, inl, inr, refl, sym, ap, ◌∙◌, subst}
use Rattle.std.specs.Prelude.{option_and_then}
use Rattle.list_law.proofs.Options.{option_and_then_parts, option_map_parts}
use Rattle.json.specs.Token.{Token, bad}
use Rattle.json.specs.Json.{Json, Items, no_items, item, Parse, parse_map, after_end_array, items_step, items}
use Rattle.json.specs.Lex.{Place, fresh, after_value, after_comma, may_begin}
use Rattle.json.proofs.Grammar.{items_fail}
use Rattle.json_law.specs.Grammar.{AreBlanks, IsArray, AreItems}
use Rattle.json_law.specs.Written.{AreWritten}
use Rattle.json_law.proofs.Fronts.{IsLeaf}
use Rattle.json_law.proofs.Places.{IsFresh, at, Begin, Behind, begin, behind}
use Rattle.json_law.proofs.Parsed.{json_of, Parsed, ItemsLeft, ArrayLeft, over, pair_first, between_commas, opened, regroup, Sound, Refuses}

module _ (f : Parse Json) (sound : Sound f) (refuses : Refuses f) where
  -- one item and what is behind it
  record Item (n : ℕ) (js : Items) (t : List ℕ) (left : List Token) : Type 0 where
    j : Json
    more : Items
    middle : List Token
    parsed : Parsed j t middle
    next : items f n middle ≡ Some (more, left)
    is : item j more ≡ js

  item_at : (n : ℕ) (p : Place) (t : List ℕ) (js : Items) (left : List Token) → may_begin p ≡ true → after_end_array (at p t) ≡ None
      → items_step f (items f n) (at p t) (after_end_array (at p t)) ≡ Some (js, left) → Item n js t left
  item_at n p t js left may begun h =
      let h2 : option_and_then (λ q. parse_map (item q.0) (items f n q.1)) (f (at p t)) ≡ Some (js, left) = sym (ap (items_step f (items f n) (at p t)) begun) ∙ h in
      let q = option_and_then_parts (λ q. parse_map (item q.0) (items f n q.1)) (f (at p t)) (js, left) h2 in
      let r = option_map_parts (λ z. (item q.0.0 z.0, z.1)) (items f n q.0.1) (js, left) q.2 in
      let parts = pair_first (item q.0.0 r.0.0) js r.0.1 left (ap Some r.2) in
      record {
        j = q.0.0;
        more = r.0.0;
        middle = q.0.1;
        parsed = sound p t q.0.0 q.0.1 may q.1;
        next = subst (λ l. items f n q.0.1 ≡ Some (r.0.0, l)) parts.1 r.1;
        is = parts.0;
      }

  not_ended : (p : Place) (t : List ℕ) → Begin p t → (after_end_array (at p t) ≡ None) ⊎ (IsFresh p × (before rest : List ℕ) × AreBlanks before × (t ≡ before ++ 93 ∷ rest) × (at p t ≡ Token.end_array ∷ at after_value rest))
  not_ended p t (Begin.end g e) = inl (ap after_end_array e)
  not_ended p t (Begin.wrong e) = inl (ap after_end_array e)
  not_ended p t (Begin.leaf k i before w rest leaf said blanks is e) = inl (ap after_end_array e ∙ no_end k i (at after_value rest) leaf)
    where
      no_end : (k : Token) (i : Json) (ts : List Token) → IsLeaf k i → after_end_array (k ∷ ts) ≡ None
      no_end Token.begin_object i ts l = refl
      no_end Token.end_object i ts l = refl
      no_end Token.begin_array i ts l = refl
      no_end Token.end_array i ts l = absurd l
      no_end (Token.key s) i ts l = refl
      no_end (Token.string s) i ts l = refl
      no_end (Token.number s) i ts l = refl
      no_end (Token.boolean b) i ts l = refl
      no_end Token.null i ts l = refl
      no_end Token.bad i ts l = refl
  not_ended p t (Begin.key s before w after rest said b c is e) = inl (ap after_end_array e)
  not_ended p t (Begin.array before rest blanks is e) = inl (ap after_end_array e)
  not_ended p t (Begin.object before rest blanks is e) = inl (ap after_end_array e)
  not_ended p t (Begin.array_end g before rest blanks is e) = inr (g, before, rest, blanks, is, e)
  not_ended p t (Begin.object_end g before rest blanks is e) = inl (ap after_end_array e)

  items_end : (n : ℕ) (ts : List Token) (js : Items) (left : List Token) → items f n (Token.end_array ∷ ts) ≡ Some (js, left) → (no_items ≡ js) × (ts ≡ left)
  unfolding items
  items_end zero ts js left h = absurd cc
  items_end (suc n) ts js left h = pair_first no_items js ts left h

  stuck : (n : ℕ) (ts : List Token) (js : Items) (left : List Token) → after_end_array ts ≡ None → f ts ≡ None → items f n ts ≡ Some (js, left) → ⊥
  stuck n ts js left a b h = let z = sym (items_fail f n ts a b) ∙ h in absurd cc

  -- behind a comma stands an item
  after_comma_item : (n : ℕ) (t : List ℕ) (js : Items) (left : List Token) → Begin after_comma t → items_step f (items f n) (at after_comma t) (after_end_array (at after_comma t)) ≡ Some (js, left)
      → Item n js t left
  after_comma_item n t js left b h = elim (not_ended after_comma t b) [
    | inl begun ↦ item_at n after_comma t js left refl begun h
    | inr closed ↦ absurd closed.0
  ]

  items_left : (n : ℕ) (t : List ℕ) (js : Items) (left : List Token) → Behind t → items f n (at after_value t) ≡ Some (js, left) → ItemsLeft js t left
  unfolding items
  items_left n t js left (Behind.end blanks e) h = absurd (stuck n [] js left refl refuses.none (over (items f n) _ _ _ e h))
  items_left n t js left (Behind.wrong e) h = absurd (stuck n (bad ∷ []) js left refl refuses.wrong (over (items f n) _ _ _ e h))
  items_left n t js left (Behind.object_end before rest blanks is e) h =
      absurd (stuck n (Token.end_object ∷ at after_value rest) js left refl (refuses.object_end (at after_value rest)) (over (items f n) _ _ _ e h))
  items_left n t js left (Behind.array_end before rest blanks is e) h =
      let p = items_end n (at after_value rest) js left (over (items f n) _ _ _ e h) in
      record {
        inner = before;
        rest = rest;
        vs = [];
        is = is;
        written = subst (λ (x : Items). AreWritten x []) p.0 tt;
        left_is = sym p.1;
        joined = λ b v c json. AreItems.last_item json (b, before, c, blanks, refl);
      }
  items_left zero t js left (Behind.more before rest blanks is e) h = absurd cc
  items_left (suc n) t js left (Behind.more before rest blanks is e) h =
      let i = after_comma_item n rest js left (begin after_comma rest refl) (over (items f (suc n)) _ _ _ e h) in
      let p = i.parsed in
      let l = items_left n p.rest i.more left (behind p.rest) (over (items f n) _ _ _ p.left_is i.next) in
      record {
        inner = before ++ 44 ∷ (p.before ++ (p.written ++ l.inner));
        rest = l.rest;
        vs = p.written ∷ l.vs;
        is = is ∙ ap (λ u. before ++ 44 ∷ u) (p.is ∙ ap (λ u. p.before ++ (p.written ++ u)) l.is) ∙ between_commas before p.before p.written l.inner (93 ∷ l.rest);
        written = subst (λ (x : Items). AreWritten x (p.written ∷ l.vs)) i.is (p.stands, l.written);
        left_is = l.left_is;
        joined = λ b v c json.
            subst (AreItems (v ∷ p.written ∷ l.vs)) (regroup b v before (p.before ++ (p.written ++ l.inner)))
            (AreItems.item json (b, before, c, blanks, refl) (l.joined p.before p.written p.blanks (json_of i.j p.written p.stands)));
      }

  pub array_left : (n : ℕ) (t : List ℕ) (js : Items) (left : List Token) → Begin fresh t → items f n (at fresh t) ≡ Some (js, left) → ArrayLeft js t left
  unfolding items
  array_left zero t js left b h = absurd cc
  array_left (suc n) t js left b h = elim (not_ended fresh t b) [
    | inl begun ↦
        let i = item_at n fresh t js left refl begun h in
        let p = i.parsed in
        let l = items_left n p.rest i.more left (behind p.rest) (over (items f n) _ _ _ p.left_is i.next) in
        record {
          inner = p.before ++ (p.written ++ l.inner);
          rest = l.rest;
          vs = p.written ∷ l.vs;
          is = p.is ∙ ap (λ u. p.before ++ (p.written ++ u)) l.is ∙ opened p.before p.written l.inner (93 ∷ l.rest);
          written = subst (λ (x : Items). AreWritten x (p.written ∷ l.vs)) i.is (p.stands, l.written);
          left_is = l.left_is;
          array = IsArray.items (l.joined p.before p.written p.blanks (json_of i.j p.written p.stands));
        }
    | inr closed ↦
        let p = items_end (suc n) (at after_value closed.2) js left (over (items f (suc n)) _ _ _ closed.5 h) in
        record {
          inner = closed.1;
          rest = closed.2;
          vs = [];
          is = closed.4;
          written = subst (λ (x : Items). AreWritten x []) p.0 tt;
          left_is = sym p.1;
          array = IsArray.no_items closed.1 closed.3;
        }
  ]
