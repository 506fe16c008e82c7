-- What the tokens of a text begin with, where a value may begin and behind a value.
use Rattle.std.proofs.Common.{◌≡◌, ℕ, List, [], ◌∷◌, ◌++◌, Bool, true, false, refl, sym, ap, ◌∙◌, subst}
use Rattle.json.specs.Token.{Token, bad}
use Rattle.json.specs.Json.{Json}
use Rattle.json.specs.Lex.{Lexeme, token, lex, between, Place, fresh, after_value, after_comma, after_key, begins_colon, may_begin, if_allowed, place_token, punctuate}
use Rattle.json_law.specs.Grammar.{AreBlanks, IsString}
use Rattle.json_law.specs.Written.{IsWritten}
use Rattle.json_law.proofs.Fronts.{IsLeaf, IsMark, Front, front}

-- the tokens of a text at a place
abbrev pub at : Place → List ℕ → List Token
at p t = punctuate p (lex between t)

abbrev pub IsFresh : Place → Type 0
IsFresh fresh = Unit {0}
IsFresh after_value = ⊥
IsFresh after_comma = ⊥
IsFresh after_key = ⊥

-- What begins where a value may begin.
pub data Begin (p : Place) (t : List ℕ) : Type 0 where
  end : IsFresh p → at p t ≡ [] → Begin p t
  wrong : at p t ≡ bad ∷ [] → Begin p t
  leaf : (k : Token) (j : Json) (before w rest : List ℕ) → IsLeaf k j → IsWritten j w → AreBlanks before → t ≡ before ++ (w ++ rest) → at p t ≡ k ∷ at after_value rest → Begin p t
  key : (s before w after rest : List ℕ) → IsString s w → AreBlanks before → AreBlanks after → t ≡ before ++ (w ++ (after ++ 58 ∷ rest)) → at p t ≡ Token.key s ∷ at fresh rest → Begin p t
  array : (before rest : List ℕ) → AreBlanks before → t ≡ before ++ 91 ∷ rest → at p t ≡ Token.begin_array ∷ at fresh rest → Begin p t
  object : (before rest : List ℕ) → AreBlanks before → t ≡ before ++ 123 ∷ rest → at p t ≡ Token.begin_object ∷ at fresh rest → Begin p t
  array_end : IsFresh p → (before rest : List ℕ) → AreBlanks before → t ≡ before ++ 93 ∷ rest → at p t ≡ Token.end_array ∷ at after_value rest → Begin p t
  object_end : IsFresh p → (before rest : List ℕ) → AreBlanks before → t ≡ before ++ 125 ∷ rest → at p t ≡ Token.end_object ∷ at after_value rest → Begin p t

-- What stands behind a value.
pub data Behind (t : List ℕ) : Type 0 where
  end : AreBlanks t → at after_value t ≡ [] → Behind t
  wrong : at after_value t ≡ bad ∷ [] → Behind t
  more : (before rest : List ℕ) → AreBlanks before → t ≡ before ++ 44 ∷ rest → at after_value t ≡ at after_comma rest → Behind t
  array_end : (before rest : List ℕ) → AreBlanks before → t ≡ before ++ 93 ∷ rest → at after_value t ≡ Token.end_array ∷ at after_value rest → Behind t
  object_end : (before rest : List ℕ) → AreBlanks before → t ≡ before ++ 125 ∷ rest → at after_value t ≡ Token.end_object ∷ at after_value rest → Behind t

-- ---- one step of `punctuate`

step : (p : Place) (k : Token) (ls : List Lexeme) → punctuate p (token k ∷ ls) ≡ place_token p k (begins_colon ls) (λ next. punctuate next ls)
unfolding punctuate
step fresh k ls = refl
step after_value k ls = refl
step after_comma k ls = refl
step after_key k ls = refl

allowed : (b : Bool) (k : Token) (go : Place → List Token) (next : Place) → b ≡ true → if_allowed b k go next ≡ k ∷ go next
allowed true k go next e = refl
allowed false k go next e = absurd cc

refused : (b : Bool) (k : Token) (go : Place → List Token) (next : Place) → b ≡ false → if_allowed b k go next ≡ bad ∷ []
refused true k go next e = absurd cc
refused false k go next e = refl

not_begun : (k : Token) (j : Json) (b : Bool) (go : Place → List Token) → IsLeaf k j → place_token after_value k b go ≡ bad ∷ []
not_begun Token.begin_object j b go l = absurd l
not_begun Token.end_object j b go l = absurd l
not_begun Token.begin_array j b go l = absurd l
not_begun Token.end_array j b go l = absurd l
not_begun (Token.key s) j b go l = absurd l
not_begun (Token.string s) j true go l = refl
not_begun (Token.string s) j false go l = refl
not_begun (Token.number s) j b go l = refl
not_begun (Token.boolean v) j b go l = refl
not_begun Token.null j b go l = refl
not_begun Token.bad j b go l = absurd l

-- ---- behind a value

behind_mark : (t : List ℕ) (x : ℕ) (l : Lexeme) (before rest : List ℕ) → IsMark x l → AreBlanks before → t ≡ before ++ x ∷ rest → lex between t ≡ l ∷ lex between rest → Behind t
unfolding punctuate
behind_mark t x l before rest IsMark.open_object blanks is e = Behind.wrong (ap (punctuate after_value) e)
behind_mark t x l before rest IsMark.close_object blanks is e = Behind.object_end before rest blanks is (ap (punctuate after_value) e)
behind_mark t x l before rest IsMark.open_array blanks is e = Behind.wrong (ap (punctuate after_value) e)
behind_mark t x l before rest IsMark.close_array blanks is e = Behind.array_end before rest blanks is (ap (punctuate after_value) e)
behind_mark t x l before rest IsMark.a_comma blanks is e = Behind.more before rest blanks is (ap (punctuate after_value) e)
behind_mark t x l before rest IsMark.a_colon blanks is e = Behind.wrong (ap (punctuate after_value) e)

behind_front : (t : List ℕ) → Front t → Behind t
unfolding punctuate
behind_front t (Front.end blanks e) = Behind.end blanks (ap (punctuate after_value) e)
behind_front t (Front.wrong ls e) = Behind.wrong (ap (punctuate after_value) e)
behind_front t (Front.leaf k j before w rest alone_is written blanks is e) =
    Behind.wrong (ap (punctuate after_value) e ∙ step after_value k (lex between rest) ∙ not_begun k j (begins_colon (lex between rest)) (λ next. at next rest) alone_is)
behind_front t (Front.mark x l before rest m blanks is e) = behind_mark t x l before rest m blanks is e

pub behind : (t : List ℕ) → Behind t
behind t = behind_front t (front t)

-- ---- where a value may begin

module _ (p : Place) (may : may_begin p ≡ true) (t : List ℕ) where
  wrong_begin : (ls : List Lexeme) → lex between t ≡ token bad ∷ ls → Begin p t
  wrong_begin ls e = Begin.wrong (ap (punctuate p) e ∙ step p bad ls)

  plain_leaf : (k : Token) (j : Json) (before w rest : List ℕ) → IsLeaf k j → IsWritten j w → AreBlanks before → t ≡ before ++ (w ++ rest) → lex between t ≡ token k ∷ lex between rest
      → place_token p k (begins_colon (lex between rest)) (λ next. at next rest) ≡ if_allowed (may_begin p) k (λ next. at next rest) after_value → Begin p t
  plain_leaf k j before w rest alone_is written blanks is e places =
      Begin.leaf k j before w rest alone_is written blanks is (ap (punctuate p) e ∙ step p k (lex between rest) ∙ places ∙ allowed (may_begin p) k (λ next. at next rest) after_value may)

  -- a string before a colon is a key
  key_at : (s before w rest : List ℕ) → IsString s w → AreBlanks before → t ≡ before ++ (w ++ rest) → lex between t ≡ token (Token.string s) ∷ lex between rest
      → begins_colon (lex between rest) ≡ true → Front rest → Begin p t
  unfolding punctuate
  key_at s before w rest written blanks is e colon_next (Front.end b f) = absurd (let z = sym (ap begins_colon f) ∙ colon_next in cc)
  key_at s before w rest written blanks is e colon_next (Front.wrong ls f) = absurd (let z = sym (ap begins_colon f) ∙ colon_next in cc)
  key_at s before w rest written blanks is e colon_next (Front.leaf k j b v r alone_is said c at_r f) = absurd (let z = sym (ap begins_colon f) ∙ colon_next in cc)
  key_at s before w rest written blanks is e colon_next (Front.mark x l after r IsMark.open_object c at_r f) = absurd (let z = sym (ap begins_colon f) ∙ colon_next in cc)
  key_at s before w rest written blanks is e colon_next (Front.mark x l after r IsMark.close_object c at_r f) = absurd (let z = sym (ap begins_colon f) ∙ colon_next in cc)
  key_at s before w rest written blanks is e colon_next (Front.mark x l after r IsMark.open_array c at_r f) = absurd (let z = sym (ap begins_colon f) ∙ colon_next in cc)
  key_at s before w rest written blanks is e colon_next (Front.mark x l after r IsMark.close_array c at_r f) = absurd (let z = sym (ap begins_colon f) ∙ colon_next in cc)
  key_at s before w rest written blanks is e colon_next (Front.mark x l after r IsMark.a_comma c at_r f) = absurd (let z = sym (ap begins_colon f) ∙ colon_next in cc)
  key_at s before w rest written blanks is e colon_next (Front.mark x l after r IsMark.a_colon c at_r f) =
      Begin.key s before w after r written blanks c (is ∙ ap (λ u. before ++ (w ++ u)) at_r)
      (ap (punctuate p) e ∙ step p (Token.string s) (lex between rest) ∙ ap (λ b. place_token p (Token.string s) b (λ next. at next rest)) colon_next
      ∙ allowed (may_begin p) (Token.key s) (λ next. at next rest) after_key may ∙ ap (λ ls. Token.key s ∷ punctuate after_key ls) f)

  string_at : (b : Bool) (s : List ℕ) (j : Json) (before w rest : List ℕ) → j ≡ Json.string s → IsWritten j w → IsString s w → AreBlanks before → t ≡ before ++ (w ++ rest)
      → lex between t ≡ token (Token.string s) ∷ lex between rest → begins_colon (lex between rest) ≡ b → Begin p t
  string_at true s j before w rest alone_is written text blanks is e next = key_at s before w rest text blanks is e next (front rest)
  string_at false s j before w rest alone_is written text blanks is e next =
      plain_leaf (Token.string s) j before w rest alone_is written blanks is e (ap (λ b. place_token p (Token.string s) b (λ n. at n rest)) next)

  leaf_at : (k : Token) (j : Json) (before w rest : List ℕ) → IsLeaf k j → IsWritten j w → AreBlanks before → t ≡ before ++ (w ++ rest) → lex between t ≡ token k ∷ lex between rest → Begin p t
  leaf_at Token.begin_object j before w rest alone_is written blanks is e = absurd alone_is
  leaf_at Token.end_object j before w rest alone_is written blanks is e = absurd alone_is
  leaf_at Token.begin_array j before w rest alone_is written blanks is e = absurd alone_is
  leaf_at Token.end_array j before w rest alone_is written blanks is e = absurd alone_is
  leaf_at (Token.key s) j before w rest alone_is written blanks is e = absurd alone_is
  leaf_at (Token.string s) j before w rest alone_is written blanks is e =
      string_at (begins_colon (lex between rest)) s j before w rest alone_is written (subst (λ (i : Json). IsWritten i w) alone_is written) blanks is e refl
  leaf_at (Token.number s) j before w rest alone_is written blanks is e = plain_leaf (Token.number s) j before w rest alone_is written blanks is e refl
  leaf_at (Token.boolean b) j before w rest alone_is written blanks is e = plain_leaf (Token.boolean b) j before w rest alone_is written blanks is e refl
  leaf_at Token.null j before w rest alone_is written blanks is e = plain_leaf Token.null j before w rest alone_is written blanks is e refl
  leaf_at Token.bad j before w rest alone_is written blanks is e = absurd alone_is

  opens : (k : Token) (rest : List ℕ) → lex between t ≡ token k ∷ lex between rest
      → place_token p k (begins_colon (lex between rest)) (λ next. at next rest) ≡ if_allowed (may_begin p) k (λ next. at next rest) fresh → at p t ≡ k ∷ at fresh rest
  opens k rest e places = ap (punctuate p) e ∙ step p k (lex between rest) ∙ places ∙ allowed (may_begin p) k (λ next. at next rest) fresh may

ends : (p : Place) (may : may_begin p ≡ true) (t : List ℕ) → AreBlanks t → lex between t ≡ [] → Begin p t
unfolding punctuate
ends fresh may t blanks e = Begin.end tt (ap (punctuate fresh) e)
ends after_value may t blanks e = absurd cc
ends after_comma may t blanks e = Begin.wrong (ap (punctuate after_comma) e)
ends after_key may t blanks e = absurd cc

mark_at : (p : Place) (may : may_begin p ≡ true) (t : List ℕ) (x : ℕ) (l : Lexeme) (before rest : List ℕ) → IsMark x l → AreBlanks before → t ≡ before ++ x ∷ rest
    → lex between t ≡ l ∷ lex between rest → Begin p t
unfolding punctuate
mark_at p may t x l before rest IsMark.open_object blanks is e = Begin.object before rest blanks is (opens p may t Token.begin_object rest e refl)
mark_at p may t x l before rest IsMark.open_array blanks is e = Begin.array before rest blanks is (opens p may t Token.begin_array rest e refl)
mark_at fresh may t x l before rest IsMark.close_object blanks is e = Begin.object_end tt before rest blanks is (ap (punctuate fresh) e)
mark_at fresh may t x l before rest IsMark.close_array blanks is e = Begin.array_end tt before rest blanks is (ap (punctuate fresh) e)
mark_at fresh may t x l before rest IsMark.a_comma blanks is e = Begin.wrong (ap (punctuate fresh) e)
mark_at fresh may t x l before rest IsMark.a_colon blanks is e = Begin.wrong (ap (punctuate fresh) e)
mark_at after_comma may t x l before rest IsMark.close_object blanks is e = Begin.wrong (ap (punctuate after_comma) e)
mark_at after_comma may t x l before rest IsMark.close_array blanks is e = Begin.wrong (ap (punctuate after_comma) e)
mark_at after_comma may t x l before rest IsMark.a_comma blanks is e = Begin.wrong (ap (punctuate after_comma) e)
mark_at after_comma may t x l before rest IsMark.a_colon blanks is e = Begin.wrong (ap (punctuate after_comma) e)
mark_at after_value may t x l before rest m blanks is e = absurd cc
mark_at after_key may t x l before rest m blanks is e = absurd cc

begin_front : (p : Place) (may : may_begin p ≡ true) (t : List ℕ) → Front t → Begin p t
begin_front p may t (Front.end blanks e) = ends p may t blanks e
begin_front p may t (Front.wrong ls e) = wrong_begin p may t ls e
begin_front p may t (Front.leaf k j before w rest alone_is written blanks is e) = leaf_at p may t k j before w rest alone_is written blanks is e
begin_front p may t (Front.mark x l before rest m blanks is e) = mark_at p may t x l before rest m blanks is e

pub begin : (p : Place) (t : List ℕ) → may_begin p ≡ true → Begin p t
begin p t may = begin_front p may t (front t)
