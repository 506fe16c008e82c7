-- A text goes on with what is read as a value, or inside brackets.
use Rattle.std.proofs.Common.{◌≡◌, ℕ, List, [], ◌∷◌, ◌++◌, true, false, Option, Some, None, refl, sym, ap, ◌∙◌, append_assoc}
use Rattle.json.specs.Token.{Token, bad}
use Rattle.json.specs.Json.{Json, Items, Members, Parse}
use Rattle.json.specs.Lex.{Place, fresh, after_value, may_begin}
use Rattle.json_law.specs.Grammar.{AreBlanks, IsPadded, IsString, IsJson, IsArray, AreItems, IsObject, AreMembers}
use Rattle.json_law.specs.Written.{IsWritten, AreWritten, MembersAreWritten}
use Rattle.json_law.proofs.Places.{at}

-- what is written as a tree is JSON
pub json_of : (j : Json) (w : List ℕ) → IsWritten j w → IsJson w
json_of Json.null w h = IsJson.word (0, ap Some (sym h))
json_of (Json.boolean true) w h = IsJson.word (1, ap Some (sym h))
json_of (Json.boolean false) w h = IsJson.word (2, ap Some (sym h))
json_of (Json.number s) w h = IsJson.number (rw h.0 h.1)
json_of (Json.string s) w h = IsJson.string h
json_of (Json.array js) w h = IsJson.array h.1
json_of (Json.object ms) w h = IsJson.object h.1

-- The text goes on, behind blanks, with the tree, and the tokens with those of the rest.
pub record Parsed (j : Json) (t : List ℕ) (left : List Token) : Type 0 where
  pub before : List ℕ
  pub written : List ℕ
  pub rest : List ℕ
  pub blanks : AreBlanks before
  pub is : t ≡ before ++ (written ++ rest)
  pub stands : IsWritten j written
  pub left_is : left ≡ at after_value rest

-- behind a value, the items of an array up to its end
pub record ItemsLeft (js : Items) (t : List ℕ) (left : List Token) : Type 0 where
  pub inner : List ℕ
  pub rest : List ℕ
  pub vs : List (List ℕ)
  pub is : t ≡ inner ++ 93 ∷ rest
  pub written : AreWritten js vs
  pub left_is : left ≡ at after_value rest
  pub joined : (before v : List ℕ) → AreBlanks before → IsJson v → AreItems (v ∷ vs) (before ++ (v ++ inner))

-- the same of a whole array, behind its bracket
pub record ArrayLeft (js : Items) (t : List ℕ) (left : List Token) : Type 0 where
  pub inner : List ℕ
  pub rest : List ℕ
  pub vs : List (List ℕ)
  pub is : t ≡ inner ++ 93 ∷ rest
  pub written : AreWritten js vs
  pub left_is : left ≡ at after_value rest
  pub array : IsArray vs (91 ∷ inner ++ 93 ∷ [])

pub record MembersLeft (ms : Members) (t : List ℕ) (left : List Token) : Type 0 where
  pub inner : List ℕ
  pub rest : List ℕ
  pub vs : List (List ℕ × List ℕ)
  pub is : t ≡ inner ++ 125 ∷ rest
  pub written : MembersAreWritten ms vs
  pub left_is : left ≡ at after_value rest
  pub joined : (k n s before v : List ℕ) → IsString k n → IsPadded n s → AreBlanks before → IsJson v → AreMembers ((k, v) ∷ vs) (s ++ 58 ∷ (before ++ (v ++ inner)))

pub record ObjectLeft (ms : Members) (t : List ℕ) (left : List Token) : Type 0 where
  pub inner : List ℕ
  pub rest : List ℕ
  pub vs : List (List ℕ × List ℕ)
  pub is : t ≡ inner ++ 125 ∷ rest
  pub written : MembersAreWritten ms vs
  pub left_is : left ≡ at after_value rest
  pub object : IsObject vs (123 ∷ inner ++ 125 ∷ [])

-- ---- what is asked of what reads a value, and of what reads inside brackets

abbrev pub Sound : Parse Json → Type 0
Sound f = (p : Place) (t : List ℕ) (j : Json) (left : List Token) → may_begin p ≡ true → f (at p t) ≡ Some (j, left) → Parsed j t left

-- no value begins with such a token
pub record Refuses (f : Parse Json) : Type 0 where
  pub none : f [] ≡ None
  pub wrong : f (bad ∷ []) ≡ None
  pub object_end : (ts : List Token) → f (Token.end_object ∷ ts) ≡ None

pub record Inner (a : Parse Items) (o : Parse Members) : Type 0 where
  pub arrays : (t : List ℕ) (js : Items) (left : List Token) → a (at fresh t) ≡ Some (js, left) → ArrayLeft js t left
  pub objects : (t : List ℕ) (ms : Members) (left : List Token) → o (at fresh t) ≡ Some (ms, left) → ObjectLeft ms t left

-- ---- helpers

pub over : {A : Type 0} (f : List Token → Option A) (x y : List Token) (r : A) → x ≡ y → f x ≡ Some r → f y ≡ Some r
over f x y r e h = sym (ap f e) ∙ h

some_same : {A : Type 0} (x y : A) → Some x ≡ Some y → x ≡ y
some_same x y h = cc

pub pair_first : {A B : Type 0} (a c : A) (b d : B) → ◌≡◌ {A = Option (A × B)} (Some (a, b)) (Some (c, d)) → (a ≡ c) × (b ≡ d)
pair_first {A} {B} a c b d h =
    let x : A × B = (a, b) in
    let y : A × B = (c, d) in
    let e : x ≡ y = some_same x y h in
    (ap (λ p. p.0) e, ap (λ p. p.1) e)

pub between_commas : (a c w i rest : List ℕ) → a ++ 44 ∷ (c ++ (w ++ (i ++ rest))) ≡ (a ++ 44 ∷ (c ++ (w ++ i))) ++ rest
between_commas a c w i rest = simp append_assoc refl

pub opened : (b w i rest : List ℕ) → b ++ (w ++ (i ++ rest)) ≡ (b ++ (w ++ i)) ++ rest
opened b w i rest = simp append_assoc refl

pub member_group : (a n b w i rest : List ℕ) → a ++ 44 ∷ (n ++ 58 ∷ (b ++ (w ++ (i ++ rest)))) ≡ (a ++ 44 ∷ (n ++ 58 ∷ (b ++ (w ++ i)))) ++ rest
member_group a n b w i rest = simp append_assoc refl

pub first_group : (n b w i rest : List ℕ) → n ++ 58 ∷ (b ++ (w ++ (i ++ rest))) ≡ (n ++ 58 ∷ (b ++ (w ++ i))) ++ rest
first_group n b w i rest = simp append_assoc refl

pub regroup : (b v a us : List ℕ) → (b ++ (v ++ a)) ++ 44 ∷ us ≡ b ++ (v ++ (a ++ 44 ∷ us))
regroup b v a us = simp append_assoc refl
