-- What stands at the front of a text, behind blanks, and which lexeme it is.
use Rattle.std.proofs.Common.{◌≡◌, ℕ, List, [], ◌∷◌, ◌++◌, length, take, drop, ◌-◌, Bool, true, false, cond, Option, Some, None, refl, sym, ap, ap₂, ◌∙◌, append_assoc}
use Rattle.std.specs.Prelude.{◌==◌, ◌&&◌, ◌||◌, codes, nat_eq}
use Rattle.std.specs.List.{starts_with}
use Rattle.std.proofs.lemmas.Bool.{eqb-true, and_parts}
use Rattle.std.proofs.lemmas.List.{take-append-drop}
use Rattle.std.proofs.lemmas.Slice.Eq.{bytes_eq-Decides}
use Rattle.list_law.specs.Members.{IsIn}
use Rattle.json.specs.Token.{Token, bad}
use Rattle.json.specs.Json.{Json}
use Rattle.json.specs.Text.{content, plain}
use Rattle.json.specs.Word.{is_operator, is_space, ends_word, after_number, number_before, word}
use Rattle.json.specs.Lex.{Lexeme, token, comma, colon, Class, class, quote, backslash, operator, space, other, string_token, lex, lex_byte, between, in_word, in_string}
use Rattle.json.proofs.Printed.Numbers.{in_word-ended, number_alone, lex-number}
use Rattle.json_law.specs.Grammar.{AreBlanks, IsContent}
use Rattle.json_law.specs.Written.{IsWritten}
use Rattle.json_law.proofs.Strings.{Closed, string_sound}
use Rattle.json_law.proofs.Numbers.{number_parts}

-- the token of a value without parts
abbrev pub IsLeaf : Token → Json → Type 0
IsLeaf Token.begin_object j = ⊥
IsLeaf Token.end_object j = ⊥
IsLeaf Token.begin_array j = ⊥
IsLeaf Token.end_array j = ⊥
IsLeaf (Token.key s) j = ⊥
IsLeaf (Token.string s) j = j ≡ Json.string s
IsLeaf (Token.number s) j = j ≡ Json.number s
IsLeaf (Token.boolean b) j = j ≡ Json.boolean b
IsLeaf Token.null j = j ≡ Json.null
IsLeaf Token.bad j = ⊥

-- the six marks
pub data IsMark : ℕ → Lexeme → Type 0 where
  open_object : IsMark 123 (token Token.begin_object)
  close_object : IsMark 125 (token Token.end_object)
  open_array : IsMark 91 (token Token.begin_array)
  close_array : IsMark 93 (token Token.end_array)
  a_comma : IsMark 44 comma
  a_colon : IsMark 58 colon

pub data Front (t : List ℕ) : Type 0 where
  end : AreBlanks t → lex between t ≡ [] → Front t
  wrong : (ls : List Lexeme) → lex between t ≡ token bad ∷ ls → Front t
  leaf : (k : Token) (j : Json) (before w rest : List ℕ) → IsLeaf k j → IsWritten j w → AreBlanks before → t ≡ before ++ (w ++ rest)
      → lex between t ≡ token k ∷ lex between rest → Front t
  mark : (x : ℕ) (l : Lexeme) (before rest : List ℕ) → IsMark x l → AreBlanks before → t ≡ before ++ x ∷ rest → lex between t ≡ l ∷ lex between rest → Front t

-- ---- words

null_lexed : (r : List ℕ) → ends_word r ≡ true → lex between (codes "null" ++ r) ≡ token Token.null ∷ lex between r
unfolding lex word
null_lexed r e = ap₂ (λ b l. token (cond b Token.null bad) ∷ l) e (in_word-ended r e)

true_lexed : (r : List ℕ) → ends_word r ≡ true → lex between (codes "true" ++ r) ≡ token (Token.boolean true) ∷ lex between r
unfolding lex word
true_lexed r e = ap₂ (λ b l. token (cond b (Token.boolean true) bad) ∷ l) e (in_word-ended r e)

false_lexed : (r : List ℕ) → ends_word r ≡ true → lex between (codes "false" ++ r) ≡ token (Token.boolean false) ∷ lex between r
unfolding lex word
false_lexed r e = ap₂ (λ b l. token (cond b (Token.boolean false) bad) ∷ l) e (in_word-ended r e)

module _ (x : ℕ) (xs : List ℕ) (other_is : class x ≡ other) where
  word_lexed : lex between (x ∷ xs) ≡ token (word (x ∷ xs)) ∷ lex in_word xs
  unfolding lex
  word_lexed = ap (λ c. lex_byte between c x xs (λ m. lex m xs)) other_is

  wrong_word : word (x ∷ xs) ≡ bad → Front (x ∷ xs)
  wrong_word is = Front.wrong (lex in_word xs) (word_lexed ∙ ap (λ k. token k ∷ lex in_word xs) is)

  literal_front : (b : Bool) (name : List ℕ) (k : Token) (j : Json) → IsLeaf k j → IsWritten j name
      → ((r : List ℕ) → ends_word r ≡ true → lex between (name ++ r) ≡ token k ∷ lex between r)
      → (starts_with nat_eq (x ∷ xs) name && ends_word (drop (length name) (x ∷ xs))) ≡ b → word (x ∷ xs) ≡ cond b k bad → Front (x ∷ xs)
  literal_front false name k j alone_is written lexed test is = wrong_word is
  literal_front true name k j alone_is written lexed test is =
      let t = x ∷ xs in
      let both = and_parts (starts_with nat_eq t name) (ends_word (drop (length name) t)) test in
      let front : name ≡ take (length name) t = (bytes_eq-Decides name (take (length name) t)).0 both.0 in
      let parts : t ≡ name ++ drop (length name) t = sym (take-append-drop (length name) t) ∙ ap (λ l. l ++ drop (length name) t) (sym front) in
      Front.leaf k j [] name (drop (length name) t) alone_is written tt parts (ap (lex between) parts ∙ lexed (drop (length name) t) both.1)

  number_by : (b : Bool) (rest : List ℕ) → after_number (x ∷ xs) ≡ Some rest → ends_word rest ≡ b
      → word (x ∷ xs) ≡ cond b (Token.number (take (length (x ∷ xs) - length rest) (x ∷ xs))) bad → Front (x ∷ xs)
  number_by false rest found ended is = wrong_word is
  number_by true rest found ended is =
      let p = number_parts (x ∷ xs) rest found in
      let alone = number_alone p.0 rest ended (ap after_number (sym p.1) ∙ found) in
      Front.leaf (Token.number p.0) (Json.number p.0) [] p.0 rest refl (refl, p.2) tt p.1 (ap (lex between) p.1 ∙ lex-number p.0 rest alone ended)

  number_front : (o : Option (List ℕ)) → after_number (x ∷ xs) ≡ o → word (x ∷ xs) ≡ number_before (x ∷ xs) o → Front (x ∷ xs)
  number_front None found is = wrong_word is
  number_front (Some rest) found is = number_by (ends_word rest) rest found refl is

  word_front : (a b c : Bool) → (x == 116) ≡ a → (x == 102) ≡ b → (x == 110) ≡ c → Front (x ∷ xs)
  unfolding word
  word_front true b c f g h = literal_front _ (codes "true") (Token.boolean true) (Json.boolean true) refl refl true_lexed refl (rw f refl)
  word_front false true c f g h = literal_front _ (codes "false") (Token.boolean false) (Json.boolean false) refl refl false_lexed refl (rw (f, g) refl)
  word_front false false true f g h = literal_front _ (codes "null") Token.null Json.null refl refl null_lexed refl (rw (f, g, h) refl)
  word_front false false false f g h = number_front (after_number (x ∷ xs)) refl (rw (f, g, h) refl)

-- ---- by the first byte

is_quote : (q b o s : Bool) → cond q quote (cond b backslash (cond o operator (cond s space other))) ≡ quote → q ≡ true
is_quote true b o s h = refl
is_quote false true o s h = absurd cc
is_quote false false true s h = absurd cc
is_quote false false false true h = absurd cc
is_quote false false false false h = absurd cc

is_blank_byte : (q b o s : Bool) → cond q quote (cond b backslash (cond o operator (cond s space other))) ≡ space → s ≡ true
is_blank_byte true b o s h = absurd cc
is_blank_byte false true o s h = absurd cc
is_blank_byte false false true s h = absurd cc
is_blank_byte false false false true h = refl
is_blank_byte false false false false h = absurd cc

space_by : (a b c d : Bool) (x : ℕ) → (x == 32) ≡ a → (x == 9) ≡ b → (x == 10) ≡ c → (x == 13) ≡ d → (a || b || c || d) ≡ true → IsIn (32 ∷ 9 ∷ 10 ∷ 13 ∷ []) x
space_by true b c d x e f g h is = (0, ap Some (sym (eqb-true x 32 e)))
space_by false true c d x e f g h is = (1, ap Some (sym (eqb-true x 9 f)))
space_by false false true d x e f g h is = (2, ap Some (sym (eqb-true x 10 g)))
space_by false false false true x e f g h is = (3, ap Some (sym (eqb-true x 13 h)))
space_by false false false false x e f g h is = absurd cc

string_front : (o : Option (List ℕ)) (x : ℕ) (xs : List ℕ) → x ≡ 34 → content plain xs ≡ o → lex between (x ∷ xs) ≡ token (string_token (content plain xs)) ∷ lex in_string xs → Front (x ∷ xs)
string_front None x xs is found lexed = Front.wrong (lex in_string xs) (lexed ∙ ap (λ o. token (string_token o) ∷ lex in_string xs) found)
string_front (Some s) x xs is found lexed =
    let c : Closed (IsContent s) xs in_string = string_sound plain xs s found in
    Front.leaf (Token.string s) (Json.string s) [] (34 ∷ (c.written ++ 34 ∷ [])) c.rest refl (c.written, c.stands, refl) tt
    (ap (λ y. y ∷ xs) is ∙ ap (λ l. 34 ∷ l) (c.is ∙ sym (append_assoc c.written (34 ∷ []) c.rest)))
    (lexed ∙ ap₂ (λ o l. token (string_token o) ∷ l) found c.lexed)

shifted : (x : ℕ) (xs : List ℕ) → IsIn (32 ∷ 9 ∷ 10 ∷ 13 ∷ []) x → lex between (x ∷ xs) ≡ lex between xs → Front xs → Front (x ∷ xs)
shifted x xs blank same (Front.end blanks e) = Front.end (blank, blanks) (same ∙ e)
shifted x xs blank same (Front.wrong ls e) = Front.wrong ls (same ∙ e)
shifted x xs blank same (Front.leaf k j before w rest alone_is written blanks is e) =
    Front.leaf k j (x ∷ before) w rest alone_is written (blank, blanks) (ap (λ t. x ∷ t) is) (same ∙ e)
shifted x xs blank same (Front.mark y l before rest m blanks is e) = Front.mark y l (x ∷ before) rest m (blank, blanks) (ap (λ t. x ∷ t) is) (same ∙ e)

is_mark : (q b o s : Bool) → cond q quote (cond b backslash (cond o operator (cond s space other))) ≡ operator → o ≡ true
is_mark true b o s h = absurd cc
is_mark false true o s h = absurd cc
is_mark false false true s h = refl
is_mark false false false true h = absurd cc
is_mark false false false false h = absurd cc

marked : (x y : ℕ) (xs : List ℕ) (l : Lexeme) → IsMark y l → (x == y) ≡ true → lex between (y ∷ xs) ≡ l ∷ lex between xs → Front (x ∷ xs)
marked x y xs l m e lexed = Front.mark y l [] xs m tt (ap (λ z. z ∷ xs) (eqb-true x y e)) (ap (λ z. lex between (z ∷ xs)) (eqb-true x y e) ∙ lexed)

mark_by : (a b c d e f : Bool) (x : ℕ) (xs : List ℕ) → (x == 123) ≡ a → (x == 125) ≡ b → (x == 91) ≡ c → (x == 93) ≡ d → (x == 58) ≡ e → (x == 44) ≡ f
    → (a || b || c || d || e || f) ≡ true → Front (x ∷ xs)
unfolding lex
mark_by true b c d e f x xs p q r s t u is = marked x 123 xs (token Token.begin_object) IsMark.open_object p refl
mark_by false true c d e f x xs p q r s t u is = marked x 125 xs (token Token.end_object) IsMark.close_object q refl
mark_by false false true d e f x xs p q r s t u is = marked x 91 xs (token Token.begin_array) IsMark.open_array r refl
mark_by false false false true e f x xs p q r s t u is = marked x 93 xs (token Token.end_array) IsMark.close_array s refl
mark_by false false false false true f x xs p q r s t u is = marked x 58 xs colon IsMark.a_colon t refl
mark_by false false false false false true x xs p q r s t u is = marked x 44 xs comma IsMark.a_comma u refl
mark_by false false false false false false x xs p q r s t u is = absurd cc

front_byte : (c : Class) (x : ℕ) (xs : List ℕ) → class x ≡ c → Front xs → Front (x ∷ xs)
unfolding lex
front_byte quote x xs e f =
    string_front (content plain xs) x xs (eqb-true x 34 (is_quote (x == 34) (x == 92) (is_operator x) (is_space x) e)) refl (ap (λ c. lex_byte between c x xs (λ m. lex m xs)) e)
front_byte backslash x xs e f = Front.wrong (lex in_word xs) (ap (λ c. lex_byte between c x xs (λ m. lex m xs)) e)
front_byte operator x xs e f =
    mark_by (x == 123) (x == 125) (x == 91) (x == 93) (x == 58) (x == 44) x xs refl refl refl refl refl refl (is_mark (x == 34) (x == 92) (is_operator x) (is_space x) e)
front_byte space x xs e f =
    shifted x xs (space_by (x == 32) (x == 9) (x == 10) (x == 13) x refl refl refl refl (is_blank_byte (x == 34) (x == 92) (is_operator x) (is_space x) e))
    (ap (λ c. lex_byte between c x xs (λ m. lex m xs)) e) f
front_byte other x xs e f = word_front x xs e (x == 116) (x == 102) (x == 110) refl refl refl

lexed_end : lex between [] ≡ []
unfolding lex
lexed_end = refl

pub front : (t : List ℕ) → Front t
front [] = Front.end tt lexed_end
front (x ∷ xs) = front_byte (class x) x xs refl (front xs)
