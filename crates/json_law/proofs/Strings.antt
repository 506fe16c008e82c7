-- What is read up to a closing quote is the content of what stands there, and behind it the lexer goes on.
use Rattle.std.proofs.Common.{◌≡◌, ℕ, ◌+◌, ◌-◌, ◌<◌, ◌≤◌, List, [], ◌∷◌, ◌++◌, Bool, true, false, cond, Option, Some, None, inl, inr, ◌⊎◌, refl, sym, ap, ◌∙◌, subst, arith}
use Rattle.std.specs.Prelude.{◌==◌, ◌&&◌, ◌||◌, nat_lt, nat_le, option_and_then, slice_get}
use Rattle.std.specs.Char.{is_digit, encode_utf8}
use Rattle.std.proofs.lemmas.Bool.{true≢false, eqb-true, ne_eqb, and_parts, ltb-false, cases_lt, le-leb, lt-ltb, leb-true, ltb-true}
use Rattle.list_law.proofs.Options.{option_and_then_parts, when_parts}
use Rattle.list_law.specs.Members.{IsIn}
use Rattle.json.specs.Text.{Within, plain, after_backslash, after_u, after_high, content, prepend, code_unit, short_escape, is_high_surrogate, is_low_surrogate, surrogate_pair}
use Rattle.json.specs.Word.{is_operator, is_space}
use Rattle.json.specs.Lex.{Lexeme, Class, class, quote, backslash, operator, space, other, Mode, lex, lex_byte, between, in_string, in_escape}
use Rattle.json_law.specs.Grammar.{IsContent, escapes}

-- The text goes on with what has this property, up to a quote. In this mode the lexer comes to what is behind the quote.
pub record Closed (P : List ℕ → Type 0) (xs : List ℕ) (mode : Mode) : Type 0 where
  pub written : List ℕ
  pub rest : List ℕ
  pub is : xs ≡ written ++ 34 ∷ rest
  pub stands : P written
  pub lexed : lex mode xs ≡ lex between rest

-- ---- what the lexer passes

stays_inside : (o s : Bool) (x : ℕ) (xs : List ℕ) (k : Mode → List Lexeme) → lex_byte in_string (cond o operator (cond s space other)) x xs k ≡ k in_string
stays_inside true s x xs k = refl
stays_inside false true x xs k = refl
stays_inside false false x xs k = refl

passes : (x : ℕ) (xs : List ℕ) → (x == 34) ≡ false → (x == 92) ≡ false → lex in_string (x ∷ xs) ≡ lex in_string xs
unfolding lex
passes x xs q b = rw (q, b) (stays_inside (is_operator x) (is_space x) x xs (λ m. lex m xs))

escaped : (c : Class) (x : ℕ) (xs : List ℕ) (k : Mode → List Lexeme) → lex_byte in_escape c x xs k ≡ k in_string
escaped quote x xs k = refl
escaped backslash x xs k = refl
escaped operator x xs k = refl
escaped space x xs k = refl
escaped other x xs k = refl

passes_escaped : (x : ℕ) (xs : List ℕ) → lex in_escape (x ∷ xs) ≡ lex in_string xs
unfolding lex
passes_escaped x xs = escaped (class x) x xs (λ m. lex m xs)

digit_passes : (x : ℕ) (xs : List ℕ) → is_digit x 16 ≡ true → lex in_string (x ∷ xs) ≡ lex in_string xs
digit_passes x xs h =
    passes x xs (ne_eqb x 34 (λ e. true≢false (sym h ∙ ap (λ y. is_digit y 16) e))) (ne_eqb x 92 (λ e. true≢false (sym h ∙ ap (λ y. is_digit y 16) e)))

all_four : (p q r s : Bool) → (p && q && r && s) ≡ true → (p ≡ true) × (q ≡ true) × (r ≡ true) × (s ≡ true)
all_four true true true true h = (refl, refl, refl, refl)
all_four true true true false h = absurd (true≢false (sym h))
all_four true true false s h = absurd (true≢false (sym h))
all_four true false r s h = absurd (true≢false (sym h))
all_four false q r s h = absurd (true≢false (sym h))

unit_passes : (a b c d u : ℕ) (xs : List ℕ) → code_unit a b c d ≡ Some u → lex in_string (a ∷ b ∷ c ∷ d ∷ xs) ≡ lex in_string xs
unfolding code_unit
unit_passes a b c d u xs h =
    let p = all_four (is_digit a 16) (is_digit b 16) (is_digit c 16) (is_digit d 16) (when_parts _ _ u h).0 in
    digit_passes a (b ∷ c ∷ d ∷ xs) p.0 ∙ digit_passes b (c ∷ d ∷ xs) p.1 ∙ digit_passes c (d ∷ xs) p.2 ∙ digit_passes d xs p.3

-- ---- escapes

prepend_parts : (bytes : List ℕ) (r : Option (List ℕ)) (s : List ℕ) → prepend bytes r ≡ Some s → (t : List ℕ) × (r ≡ Some t) × (s ≡ bytes ++ t)
prepend_parts bytes None s h = absurd cc
prepend_parts bytes (Some t) s h = (t, refl, cc)

in_place : (k x y e c : ℕ) → slice_get escapes k ≡ Some (x, y) → e ≡ x → y ≡ c → IsIn escapes (e, c)
in_place k x y e c here p q = (k, here ∙ (λ i. Some (sym p i, q i)))

short_by : (q b s lb lf ln lr lt : Bool) (e c : ℕ) → (e == 34) ≡ q → (e == 92) ≡ b → (e == 47) ≡ s → (e == 98) ≡ lb → (e == 102) ≡ lf → (e == 110) ≡ ln → (e == 114) ≡ lr
    → (e == 116) ≡ lt → cond (q || b || s) (Some e) (cond lb (Some 8) (cond lf (Some 12) (cond ln (Some 10) (cond lr (Some 13) (cond lt (Some 9) None))))) ≡ Some c
    → IsIn escapes (e, c)
short_by true b s lb lf ln lr lt e c p1 p2 p3 p4 p5 p6 p7 p8 h = let is = eqb-true e 34 p1 in let same : e ≡ c = cc in in_place 0 34 34 e c refl is (sym is ∙ same)
short_by false true s lb lf ln lr lt e c p1 p2 p3 p4 p5 p6 p7 p8 h = let is = eqb-true e 92 p2 in let same : e ≡ c = cc in in_place 1 92 92 e c refl is (sym is ∙ same)
short_by false false true lb lf ln lr lt e c p1 p2 p3 p4 p5 p6 p7 p8 h = let is = eqb-true e 47 p3 in let same : e ≡ c = cc in in_place 2 47 47 e c refl is (sym is ∙ same)
short_by false false false true lf ln lr lt e c p1 p2 p3 p4 p5 p6 p7 p8 h = let same : 8 ≡ c = cc in in_place 3 98 8 e c refl (eqb-true e 98 p4) same
short_by false false false false true ln lr lt e c p1 p2 p3 p4 p5 p6 p7 p8 h = let same : 12 ≡ c = cc in in_place 4 102 12 e c refl (eqb-true e 102 p5) same
short_by false false false false false true lr lt e c p1 p2 p3 p4 p5 p6 p7 p8 h = let same : 10 ≡ c = cc in in_place 5 110 10 e c refl (eqb-true e 110 p6) same
short_by false false false false false false true lt e c p1 p2 p3 p4 p5 p6 p7 p8 h = let same : 13 ≡ c = cc in in_place 6 114 13 e c refl (eqb-true e 114 p7) same
short_by false false false false false false false true e c p1 p2 p3 p4 p5 p6 p7 p8 h = let same : 9 ≡ c = cc in in_place 7 116 9 e c refl (eqb-true e 116 p8) same
short_by false false false false false false false false e c p1 p2 p3 p4 p5 p6 p7 p8 h = absurd cc

short_is : (e c : ℕ) → short_escape e ≡ Some c → IsIn escapes (e, c)
unfolding short_escape
short_is e c h = short_by (e == 34) (e == 92) (e == 47) (e == 98) (e == 102) (e == 110) (e == 114) (e == 116) e c refl refl refl refl refl refl refl refl h

no_surrogate : (u : ℕ) → is_high_surrogate u ≡ false → is_low_surrogate u ≡ false → (u < 0xd800) ⊎ (0xe000 ≤ u)
no_surrogate u high low = elim (cases_lt u 0xd800) [
  | inl a ↦ inl a
  | inr b ↦ elim (cases_lt u 0xe000) [
    | inr d ↦ inr d
    | inl c ↦ elim (cases_lt u 0xdc00) [
      | inl e ↦ let yes : is_high_surrogate u ≡ true = rw (le-leb 0xd800 u b, lt-ltb u 0xdc00 e) refl in absurd (true≢false (sym yes ∙ high))
      | inr e ↦ let yes : is_low_surrogate u ≡ true = rw (le-leb 0xdc00 u e, lt-ltb u 0xe000 c) refl in absurd (true≢false (sym yes ∙ low))
    ]
  ]
]

-- ---- the content

abbrev pub Sound : Within → List ℕ → List ℕ → Type 0
Sound plain s xs = Closed (IsContent s) xs in_string
Sound after_backslash s xs = Closed (λ c. IsContent s (92 ∷ c)) xs in_escape
Sound after_u s xs = Closed (λ c. IsContent s (92 ∷ 117 ∷ c)) xs in_string
Sound (after_high high) s xs =
    (a b c d : ℕ) → code_unit a b c d ≡ Some high → is_high_surrogate high ≡ true → Closed (λ t. IsContent s (92 ∷ 117 ∷ a ∷ b ∷ c ∷ d ∷ t)) xs in_string

abbrev Ahead : Within → List ℕ → Type 0
Ahead w xs = (s : List ℕ) → content w xs ≡ Some s → Sound w s xs

at_plain : (q b l : Bool) (x : ℕ) (xs s : List ℕ) → (x == 34) ≡ q → (x == 92) ≡ b → nat_lt x 32 ≡ l → Ahead plain xs → Ahead after_backslash xs
    → cond q (Some []) (cond b (content after_backslash xs) (cond l None (prepend (x ∷ []) (content plain xs)))) ≡ Some s → Sound plain s (x ∷ xs)
unfolding lex
at_plain true b l x xs s e f g here escape h =
    let none : [] ≡ s = cc in
    record { written = []; rest = xs; is = ap (λ y. y ∷ xs) (eqb-true x 34 e); stands = subst (λ t. IsContent t []) none IsContent.none; lexed = rw e refl }
at_plain false true l x xs s e f g here escape h =
    let c = escape s h in
    let is = eqb-true x 92 f in
    record {
      written = x ∷ c.written;
      rest = c.rest;
      is = ap (λ t. x ∷ t) c.is;
      stands = subst (λ y. IsContent s (y ∷ c.written)) (sym is) c.stands;
      lexed = rw (e, f) c.lexed;
    }
at_plain false false true x xs s e f g here escape h = absurd cc
at_plain false false false x xs s e f g here escape h =
    let p = prepend_parts (x ∷ []) (content plain xs) s h in
    let c = here p.0 p.1 in
    record {
      written = x ∷ c.written;
      rest = c.rest;
      is = ap (λ t. x ∷ t) c.is;
      stands = subst (λ t. IsContent t (x ∷ c.written)) (sym p.2) (IsContent.plain (ltb-false x 32 g) (λ z. true≢false (sym (ap (λ y. y == 34) z) ∙ e)) (λ z. true≢false (sym (ap (λ y. y == 92) z) ∙ f)) c.stands);
      lexed = passes x xs e f ∙ c.lexed;
    }

at_escape : (u : Bool) (x : ℕ) (xs s : List ℕ) → (x == 117) ≡ u → Ahead plain xs → Ahead after_u xs
    → cond u (content after_u xs) (option_and_then (λ c. prepend (c ∷ []) (content plain xs)) (short_escape x)) ≡ Some s → Sound after_backslash s (x ∷ xs)
at_escape true x xs s e here unit h =
    let c = unit s h in
    let is = eqb-true x 117 e in
    record {
      written = x ∷ c.written;
      rest = c.rest;
      is = ap (λ t. x ∷ t) c.is;
      stands = subst (λ y. IsContent s (92 ∷ y ∷ c.written)) (sym is) c.stands;
      lexed = passes_escaped x xs ∙ c.lexed;
    }
at_escape false x xs s e here unit h =
    let p = option_and_then_parts (λ c. prepend (c ∷ []) (content plain xs)) (short_escape x) s h in
    let q = prepend_parts (p.0 ∷ []) (content plain xs) s p.2 in
    let c = here q.0 q.1 in
    record {
      written = x ∷ c.written;
      rest = c.rest;
      is = ap (λ t. x ∷ t) c.is;
      stands = subst (λ t. IsContent t (92 ∷ x ∷ c.written)) (sym q.2) (IsContent.short (short_is x p.0 p.1) c.stands);
      lexed = passes_escaped x xs ∙ c.lexed;
    }

at_unit : (hi lo : Bool) (u a b c d : ℕ) (xs s : List ℕ) → code_unit a b c d ≡ Some u → is_high_surrogate u ≡ hi → is_low_surrogate u ≡ lo → Ahead plain xs → Ahead (after_high u) xs
    → cond hi (content (after_high u) xs) (cond lo None (prepend (encode_utf8 u) (content plain xs))) ≡ Some s → Sound after_u s (a ∷ b ∷ c ∷ d ∷ xs)
at_unit true lo u a b c d xs s code e f here next h =
    let k = next s h a b c d code e in
    record {
      written = a ∷ b ∷ c ∷ d ∷ k.written;
      rest = k.rest;
      is = ap (λ t. a ∷ b ∷ c ∷ d ∷ t) k.is;
      stands = k.stands;
      lexed = unit_passes a b c d u xs code ∙ k.lexed;
    }
at_unit false true u a b c d xs s code e f here next h = absurd cc
at_unit false false u a b c d xs s code e f here next h =
    let p = prepend_parts (encode_utf8 u) (content plain xs) s h in
    let k = here p.0 p.1 in
    record {
      written = a ∷ b ∷ c ∷ d ∷ k.written;
      rest = k.rest;
      is = ap (λ t. a ∷ b ∷ c ∷ d ∷ t) k.is;
      stands = subst (λ t. IsContent t (92 ∷ 117 ∷ a ∷ b ∷ c ∷ d ∷ k.written)) (sym p.2) (IsContent.unit code (no_surrogate u e f) k.stands);
      lexed = unit_passes a b c d u xs code ∙ k.lexed;
    }

at_pair : (high : ℕ) (x y e f g h : ℕ) (xs s : List ℕ) → Ahead plain xs
    → cond ((x == 92) && (y == 117)) (option_and_then (λ l. cond (is_low_surrogate l) (prepend (encode_utf8 (surrogate_pair high l)) (content plain xs)) None) (code_unit e f g h)) None ≡ Some s
    → Sound (after_high high) s (x ∷ y ∷ e ∷ f ∷ g ∷ h ∷ xs)
unfolding lex
at_pair high x y e f g h xs s here read a b c d code is_high =
    let both = when_parts ((x == 92) && (y == 117)) _ s read in
    let slash = and_parts (x == 92) (y == 117) both.0 in
    let unit = option_and_then_parts (λ l. cond (is_low_surrogate l) (prepend (encode_utf8 (surrogate_pair high l)) (content plain xs)) None) (code_unit e f g h) s both.1 in
    let low = when_parts (is_low_surrogate unit.0) _ s unit.2 in
    let p = prepend_parts (encode_utf8 (surrogate_pair high unit.0)) (content plain xs) s low.1 in
    let k = here p.0 p.1 in
    let hs = and_parts (nat_le 0xd800 high) (nat_lt high 0xdc00) is_high in
    let ls = and_parts (nat_le 0xdc00 unit.0) (nat_lt unit.0 0xe000) low.0 in
    let h0 : 0xd800 ≤ high = leb-true 0xd800 high hs.0 in
    let h1 : high < 0xdc00 = ltb-true high 0xdc00 hs.1 in
    let l0 : 0xdc00 ≤ unit.0 = leb-true 0xdc00 unit.0 ls.0 in
    let l1 : unit.0 < 0xe000 = ltb-true unit.0 0xe000 ls.1 in
    let high_is : high ≡ 0xd800 + (high - 0xd800) = omega (arith, h0) in
    let low_is : unit.0 ≡ 0xdc00 + (unit.0 - 0xdc00) = omega (arith, l0) in
    let whole : IsContent (encode_utf8 (surrogate_pair high unit.0) ++ p.0) (92 ∷ 117 ∷ a ∷ b ∷ c ∷ d ∷ 92 ∷ 117 ∷ e ∷ f ∷ g ∷ h ∷ k.written) =
    IsContent.pair (code ∙ ap Some high_is) (unit.1 ∙ ap Some low_is) (omega (arith, h0, h1)) (omega (arith, l0, l1)) k.stands in
    let xi = eqb-true x 92 slash.0 in
    let yi = eqb-true y 117 slash.1 in
    record {
      written = x ∷ y ∷ e ∷ f ∷ g ∷ h ∷ k.written;
      rest = k.rest;
      is = ap (λ t. x ∷ y ∷ e ∷ f ∷ g ∷ h ∷ t) k.is;
      stands = subst (λ t. IsContent t (92 ∷ 117 ∷ a ∷ b ∷ c ∷ d ∷ x ∷ y ∷ e ∷ f ∷ g ∷ h ∷ k.written)) (sym p.2)
          (subst (λ z. IsContent (encode_utf8 (surrogate_pair high unit.0) ++ p.0) (92 ∷ 117 ∷ a ∷ b ∷ c ∷ d ∷ z ∷ y ∷ e ∷ f ∷ g ∷ h ∷ k.written)) (sym xi)
          (subst (λ z. IsContent (encode_utf8 (surrogate_pair high unit.0) ++ p.0) (92 ∷ 117 ∷ a ∷ b ∷ c ∷ d ∷ 92 ∷ z ∷ e ∷ f ∷ g ∷ h ∷ k.written)) (sym yi) whole));
      lexed = ap (λ z. lex in_string (z ∷ y ∷ e ∷ f ∷ g ∷ h ∷ xs)) xi ∙ passes_escaped y (e ∷ f ∷ g ∷ h ∷ xs) ∙ unit_passes e f g h unit.0 xs unit.1 ∙ k.lexed;
    }

pub string_sound : (w : Within) (xs s : List ℕ) → content w xs ≡ Some s → Sound w s xs
unfolding content
string_sound plain [] s h = absurd cc
string_sound plain (x ∷ xs) s h =
    at_plain (x == 34) (x == 92) (nat_lt x 32) x xs s refl refl refl (λ t. string_sound plain xs t) (λ t. string_sound after_backslash xs t) h
string_sound after_backslash [] s h = absurd cc
string_sound after_backslash (x ∷ xs) s h = at_escape (x == 117) x xs s refl (λ t. string_sound plain xs t) (λ t. string_sound after_u xs t) h
string_sound after_u [] s h = absurd cc
string_sound after_u (a ∷ []) s h = absurd cc
string_sound after_u (a ∷ b ∷ []) s h = absurd cc
string_sound after_u (a ∷ b ∷ c ∷ []) s h = absurd cc
string_sound after_u (a ∷ b ∷ c ∷ d ∷ xs) s h =
    let p = option_and_then_parts (λ u. cond (is_high_surrogate u) (content (after_high u) xs) (cond (is_low_surrogate u) None (prepend (encode_utf8 u) (content plain xs)))) (code_unit a b c d) s h in
    at_unit (is_high_surrogate p.0) (is_low_surrogate p.0) p.0 a b c d xs s p.1 refl refl (λ t. string_sound plain xs t) (λ t. string_sound (after_high p.0) xs t) p.2
string_sound (after_high high) [] s h = λ a b c d code e. absurd cc
string_sound (after_high high) (x ∷ []) s h = λ a b c d code e. absurd cc
string_sound (after_high high) (x ∷ y ∷ []) s h = λ a b c d code e. absurd cc
string_sound (after_high high) (x ∷ y ∷ z ∷ []) s h = λ a b c d code e. absurd cc
string_sound (after_high high) (x ∷ y ∷ z ∷ u ∷ []) s h = λ a b c d code e. absurd cc
string_sound (after_high high) (x ∷ y ∷ z ∷ u ∷ v ∷ []) s h = λ a b c d code e. absurd cc
string_sound (after_high high) (x ∷ y ∷ z ∷ u ∷ v ∷ w ∷ xs) s h = at_pair high x y z u v w xs s (λ t. string_sound plain xs t) h
