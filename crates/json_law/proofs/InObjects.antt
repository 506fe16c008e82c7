-- What is read inside an object is written as its members.
use Rattle.std.proofs.Common.{◌≡◌, ℕ, zero, suc, List, [], ◌∷◌, ◌++◌, Option, Some, ◌⊎◌, inl, inr, refl, sym, ap, ◌∙◌, subst, append_assoc}
use Rattle.std.specs.Prelude.{option_and_then}
use Rattle.list_law.proofs.Options.{option_and_then_parts, option_map_parts}
use Rattle.json.specs.Token.{Token}
use Rattle.json.specs.Json.{Json, Members, no_members, member, Parse, parse_map, read_key, members_step, members}
use Rattle.json.specs.Lex.{Place, fresh, after_value, after_comma}
use Rattle.json_law.specs.Grammar.{AreBlanks, IsPadded, IsString, IsObject, AreMembers}
use Rattle.json_law.specs.Written.{MembersAreWritten}
use Rattle.json_law.proofs.Fronts.{IsLeaf}
use Rattle.json_law.proofs.Places.{IsFresh, at, Begin, Behind, begin, behind}
use Rattle.json_law.proofs.Parsed.{json_of, Parsed, MembersLeft, ObjectLeft, over, pair_first, member_group, first_group, regroup, Sound, Refuses}

module _ (f : Parse Json) (sound : Sound f) (refuses : Refuses f) where
  record Member (n : ℕ) (ms : Members) (t : List ℕ) (left : List Token) : Type 0 where
    k : List ℕ
    name : List ℕ
    padded : List ℕ
    j : Json
    more : Members
    middle : List Token
    behind_colon : List ℕ
    said : IsString k name
    pads : IsPadded name padded
    begins : t ≡ padded ++ 58 ∷ behind_colon
    parsed : Parsed j behind_colon middle
    next : members f n middle ≡ Some (more, left)
    is : member k j more ≡ ms

  member_at : (n : ℕ) (p : Place) (t : List ℕ) (s before w after rest : List ℕ) (ms : Members) (left : List Token) → IsString s w → AreBlanks before → AreBlanks after
      → t ≡ before ++ (w ++ (after ++ 58 ∷ rest)) → members_step f (members f n) (Some s) (at fresh rest) ≡ Some (ms, left) → Member n ms t left
  member_at n p t s before w after rest ms left said b c is h =
      let q = option_and_then_parts (λ q. parse_map (member s q.0) (members f n q.1)) (f (at fresh rest)) (ms, left) h in
      let r = option_map_parts (λ z. (member s q.0.0 z.0, z.1)) (members f n q.0.1) (ms, left) q.2 in
      let parts = pair_first (member s q.0.0 r.0.0) ms r.0.1 left (ap Some r.2) in
      record {
        k = s;
        name = w;
        padded = before ++ (w ++ after);
        j = q.0.0;
        more = r.0.0;
        middle = q.0.1;
        behind_colon = rest;
        said = said;
        pads = (before, after, b, c, refl);
        begins = is ∙ key_group before w after rest;
        parsed = sound fresh rest q.0.0 q.0.1 refl q.1;
        next = subst (λ l. members f n q.0.1 ≡ Some (r.0.0, l)) parts.1 r.1;
        is = parts.0;
      }
    where
      key_group : (b w a r : List ℕ) → b ++ (w ++ (a ++ 58 ∷ r)) ≡ (b ++ (w ++ a)) ++ 58 ∷ r
      key_group b w a r = simp append_assoc refl

  abbrev Turn : ℕ → List Token → Option (Members × List Token)
  Turn n ts = option_and_then (λ p. members_step f (members f n) p.0 p.1) (read_key ts)

  -- a key, or the end of the object
  turn : (n : ℕ) (p : Place) (t : List ℕ) (ms : Members) (left : List Token) → Begin p t → Turn n (at p t) ≡ Some (ms, left)
      → Member n ms t left ⊎ (IsFresh p × (before rest : List ℕ) × AreBlanks before × (t ≡ before ++ 125 ∷ rest) × (no_members ≡ ms) × (at after_value rest ≡ left))
  turn n p t ms left (Begin.end g e) h = absurd (let z = over (Turn n) _ _ _ e h in cc)
  turn n p t ms left (Begin.wrong e) h = absurd (let z = over (Turn n) _ _ _ e h in cc)
  turn n p t ms left (Begin.leaf k i before w rest leaf said blanks is e) h = absurd (no_key k i (at after_value rest) leaf (over (Turn n) _ _ _ e h))
    where
      no_key : (k : Token) (i : Json) (ts : List Token) → IsLeaf k i → Turn n (k ∷ ts) ≡ Some (ms, left) → ⊥
      no_key Token.begin_object i ts l z = absurd l
      no_key Token.end_object i ts l z = absurd l
      no_key Token.begin_array i ts l z = absurd l
      no_key Token.end_array i ts l z = absurd l
      no_key (Token.key s) i ts l z = absurd l
      no_key (Token.string s) i ts l z = cc
      no_key (Token.number s) i ts l z = cc
      no_key (Token.boolean b) i ts l z = cc
      no_key Token.null i ts l z = cc
      no_key Token.bad i ts l z = absurd l
  turn n p t ms left (Begin.key s before w after rest said b c is e) h =
      inl (member_at n p t s before w after rest ms left said b c is (over (Turn n) _ _ _ e h))
  turn n p t ms left (Begin.array before rest blanks is e) h = absurd (let z = over (Turn n) _ _ _ e h in cc)
  turn n p t ms left (Begin.object before rest blanks is e) h = absurd (let z = over (Turn n) _ _ _ e h in cc)
  turn n p t ms left (Begin.array_end g before rest blanks is e) h = absurd (let z = over (Turn n) _ _ _ e h in cc)
  turn n p t ms left (Begin.object_end g before rest blanks is e) h =
      let q = pair_first no_members ms (at after_value rest) left (over (Turn n) _ _ _ e h) in
      inr (g, before, rest, blanks, is, q.0, q.1)

  members_left : (n : ℕ) (t : List ℕ) (ms : Members) (left : List Token) → Behind t → members f n (at after_value t) ≡ Some (ms, left) → MembersLeft ms t left
  unfolding members
  members_left zero t ms left b h = absurd cc
  members_left (suc n) t ms left (Behind.end blanks e) h = absurd (let z = over (Turn n) _ _ _ e h in cc)
  members_left (suc n) t ms left (Behind.wrong e) h = absurd (let z = over (Turn n) _ _ _ e h in cc)
  members_left (suc n) t ms left (Behind.array_end before rest blanks is e) h = absurd (let z = over (Turn n) _ _ _ e h in cc)
  members_left (suc n) t ms left (Behind.object_end before rest blanks is e) h =
      let p = pair_first no_members ms (at after_value rest) left (over (Turn n) _ _ _ e h) in
      record {
        inner = before;
        rest = rest;
        vs = [];
        is = is;
        written = subst (λ (x : Members). MembersAreWritten x []) p.0 tt;
        left_is = sym p.1;
        joined = λ k n s b v said pads c json. AreMembers.last_member said pads json (b, before, c, blanks, refl);
      }
  members_left (suc n) t ms left (Behind.more before rest blanks is e) h = elim (turn n after_comma rest ms left (begin after_comma rest refl) (over (Turn n) _ _ _ e h)) [
    | inr closed ↦ absurd closed.0
    | inl m ↦
        let p = m.parsed in
        let l = members_left n p.rest m.more left (behind p.rest) (over (members f n) _ _ _ p.left_is m.next) in
        record {
          inner = before ++ 44 ∷ (m.padded ++ 58 ∷ (p.before ++ (p.written ++ l.inner)));
          rest = l.rest;
          vs = (m.k, p.written) ∷ l.vs;
          is = is ∙ ap (λ u. before ++ 44 ∷ u) (m.begins ∙ ap (λ u. m.padded ++ 58 ∷ u) (p.is ∙ ap (λ u. p.before ++ (p.written ++ u)) l.is)) ∙ member_group before m.padded p.before p.written l.inner (125 ∷ l.rest);
          written = subst (λ (x : Members). MembersAreWritten x ((m.k, p.written) ∷ l.vs)) m.is (refl, p.stands, l.written);
          left_is = l.left_is;
          joined = λ k n s b v said pads c json.
              subst (AreMembers ((k, v) ∷ (m.k, p.written) ∷ l.vs)) (ap (λ u. s ++ 58 ∷ u) (regroup b v before (m.padded ++ 58 ∷ (p.before ++ (p.written ++ l.inner)))))
              (AreMembers.member said pads json (b, before, c, blanks, refl) (l.joined m.k m.name m.padded p.before p.written m.said m.pads p.blanks (json_of m.j p.written p.stands)));
        }
  ]

  pub object_left : (n : ℕ) (t : List ℕ) (ms : Members) (left : List Token) → Begin fresh t → members f n (at fresh t) ≡ Some (ms, left) → ObjectLeft ms t left
  unfolding members
  object_left zero t ms left b h = absurd cc
  object_left (suc n) t ms left b h = elim (turn n fresh t ms left b h) [
    | inr closed ↦
        record {
          inner = closed.1;
          rest = closed.2;
          vs = [];
          is = closed.4;
          written = subst (λ (x : Members). MembersAreWritten x []) closed.5 tt;
          left_is = sym closed.6;
          object = IsObject.no_members closed.1 closed.3;
        }
    | inl m ↦
        let p = m.parsed in
        let l = members_left n p.rest m.more left (behind p.rest) (over (members f n) _ _ _ p.left_is m.next) in
        record {
          inner = m.padded ++ 58 ∷ (p.before ++ (p.written ++ l.inner));
          rest = l.rest;
          vs = (m.k, p.written) ∷ l.vs;
          is = m.begins ∙ ap (λ u. m.padded ++ 58 ∷ u) (p.is ∙ ap (λ u. p.before ++ (p.written ++ u)) l.is) ∙ first_group m.padded p.before p.written l.inner (125 ∷ l.rest);
          written = subst (λ (x : Members). MembersAreWritten x ((m.k, p.written) ∷ l.vs)) m.is (refl, p.stands, l.written);
          left_is = l.left_is;
          object = IsObject.members (l.joined m.k m.name m.padded p.before p.written m.said m.pads p.blanks (json_of m.j p.written p.stands));
        }
  ]
