-- Words: none of their bytes is a space or a comma, so they are cut where they were joined.
use Rattle.std.proofs.Common.{◌≡◌, ℕ, ◌/◌, ◌%◌, ◌≤◌, ◌<◌, ◌^◌, List, [], ◌∷◌, ◌++◌, Bool, true, false, refl, ◌∙◌, ap, arith, inl, inr}
use Rattle.std.specs.Prelude.{◌==◌, not, nat_lt, IsTrue, codes}
use Rattle.std.specs.List.{list_all, slice_split, onto_first, join_with_byte}
use Rattle.std.specs.Fmt.{decimal}
use Rattle.std.proofs.lemmas.Bool.{and_parts, cases_lt, lt-ltb, lt-leb, ne_eqb, ltb-true, eq-eqb, not-true}
use Rattle.std.proofs.lemmas.List.Folds.{list_all-append}
use Rattle.std.proofs.lemmas.List.Splits.{slice_split-cons_yes, slice_split-cons_no}
use Rattle.net_base.specs.Addresses.{is_figure}
use Rattle.net_base.specs.NameRule.{is_name, is_name_byte}
use Rattle.net_base.specs.Prefixes.{PlainPrefix, IsPrefix}
use Rattle.text_parts.specs.Texts.{address_text, prefix_text}
use Rattle.text_parts.proofs.NameBytes.{name_bytes}
use Rattle.text_parts.proofs.Numbers.{figure_range}
use Rattle.text_parts.proofs.PrefixTexts.{have_no, digits_only}
use Rattle.text_parts.proofs.Words.{figures}

-- each byte is above a space and a comma
abbrev pub solid : List ℕ → Bool
solid bs = list_all (λ b. nat_lt 44 b) bs

solid_all : (p : ℕ → Bool) → ((b : ℕ) → p b ≡ true → nat_lt 44 b ≡ true) → (bs : List ℕ) → list_all p bs ≡ true → solid bs ≡ true
solid_all p each [] all = refl
solid_all p each (b ∷ bs) all = let h = and_parts (p b) (list_all p bs) all in rw (each b h.0, solid_all p each bs h.1) refl

pub solid_append : (a b : List ℕ) → solid a ≡ true → solid b ≡ true → solid (a ++ b) ≡ true
solid_append a b ha hb = list_all-append (λ b. nat_lt 44 b) a b ∙ rw (ha, hb) refl

figure_solid : (b : ℕ) → is_figure b ≡ true → nat_lt 44 b ≡ true
figure_solid b h = lt-ltb 44 b (omega (arith, (figure_range b h).0))

name_byte_solid : (b : ℕ) → is_name_byte b ≡ true → nat_lt 44 b ≡ true
name_byte_solid b h = elim (cases_lt 44 b) [
  | inl t ↦ lt-ltb 44 b t
  | inr t ↦
      let none : is_name_byte b ≡ false =
      rw (
        lt-leb 97 b (omega (arith, t)),
        lt-leb 65 b (omega (arith, t)),
        lt-leb 48 b (omega (arith, t)),
        ne_eqb b 95 (λ e. omega (arith, e, t)),
        ne_eqb b 45 (λ e. omega (arith, e, t)),
        ne_eqb b 46 (λ e. omega (arith, e, t)),
      ) refl in
      absurd cc
]

pub solid_name : (name : List ℕ) → IsTrue (is_name name) → solid name ≡ true
solid_name name is = solid_all is_name_byte name_byte_solid name (name_bytes name is)

pub solid_number : (n : ℕ) → n < 2 ^ 64 → solid (decimal n) ≡ true
solid_number n wide = solid_all is_figure figure_solid (decimal n) (figures n wide)

dots_solid : (a b c d : List ℕ) → solid a ≡ true → solid b ≡ true → solid c ≡ true → solid d ≡ true → solid (a ++ codes "." ++ b ++ codes "." ++ c ++ codes "." ++ d) ≡ true
dots_solid a b c d ha hb hc hd =
    solid_append (a ++ codes "." ++ b ++ codes "." ++ c ++ codes ".") d
    (solid_append (a ++ codes "." ++ b ++ codes "." ++ c) (codes ".")
    (solid_append (a ++ codes "." ++ b ++ codes ".") c
    (solid_append (a ++ codes "." ++ b) (codes ".") (solid_append (a ++ codes ".") b (solid_append a (codes ".") ha refl) hb) refl) hc) refl) hd

pub solid_address : (n : ℕ) → n < 2 ^ 32 → solid (address_text n) ≡ true
solid_address n wide =
    dots_solid (decimal (n / 16777216)) (decimal (n / 65536 % 256)) (decimal (n / 256 % 256)) (decimal (n % 256))
    (solid_number (n / 16777216) (omega (arith, wide))) (solid_number (n / 65536 % 256) (omega (arith, wide)))
    (solid_number (n / 256 % 256) (omega (arith, wide))) (solid_number (n % 256) (omega (arith, wide)))

pub solid_prefix : (p : PlainPrefix) → IsPrefix p → solid (prefix_text p) ≡ true
solid_prefix p is =
    solid_append (address_text p.bits ++ codes "/") (decimal p.len)
    (solid_append (address_text p.bits) (codes "/") (solid_address p.bits is.wide) refl) (solid_number p.len (omega (arith, is.within)))

-- ---- cutting

pub solid-have_no : (sign : ℕ) (bs : List ℕ) → sign ≤ 44 → solid bs ≡ true → have_no sign bs ≡ true
solid-have_no sign [] low all = refl
solid-have_no sign (b ∷ bs) low all =
    let h = and_parts (nat_lt 44 b) (solid bs) all in
    rw (ne_eqb b sign (λ e. omega (arith, e, low, ltb-true 44 b h.0)), solid-have_no sign bs low h.1) refl

-- a word, and what follows the sign behind it
pub split_word : (sign : ℕ) (w rest : List ℕ) → have_no sign w ≡ true → slice_split (λ b. b == sign) (w ++ sign ∷ rest) ≡ w ∷ slice_split (λ b. b == sign) rest
split_word sign [] rest none = slice_split-cons_yes (λ b. b == sign) sign rest (eq-eqb sign sign refl)
split_word sign (x ∷ w) rest none =
    let h = and_parts (not (x == sign)) (have_no sign w) none in
    slice_split-cons_no (λ b. b == sign) x (w ++ sign ∷ rest) (not-true (x == sign) h.0) ∙ ap (onto_first x) (split_word sign w rest h.1)

-- a word alone
pub split_last : (sign : ℕ) (w : List ℕ) → have_no sign w ≡ true → slice_split (λ b. b == sign) w ≡ w ∷ []
split_last sign [] none = refl
split_last sign (x ∷ w) none =
    let h = and_parts (not (x == sign)) (have_no sign w) none in
    slice_split-cons_no (λ b. b == sign) x w (not-true (x == sign) h.0) ∙ ap (onto_first x) (split_last sign w h.1)

-- words that were joined
pub split_joined : (sign : ℕ) (w : List ℕ) (ws : List (List ℕ)) → list_all (have_no sign) (w ∷ ws) ≡ true → slice_split (λ b. b == sign) (join_with_byte sign (w ∷ ws)) ≡ w ∷ ws
split_joined sign w [] none = split_last sign w (and_parts (have_no sign w) true none).0
split_joined sign w (v ∷ ws) none =
    let h = and_parts (have_no sign w) (list_all (have_no sign) (v ∷ ws)) none in
    split_word sign w (join_with_byte sign (v ∷ ws)) h.0 ∙ ap (λ (vs : List (List ℕ)). w ∷ vs) (split_joined sign v ws h.1)

pub solid_words : (sign : ℕ) (ws : List (List ℕ)) → sign ≤ 44 → list_all solid ws ≡ true → list_all (have_no sign) ws ≡ true
solid_words sign [] low all = refl
solid_words sign (w ∷ ws) low all =
    let h = and_parts (solid w) (list_all solid ws) all in
    rw (solid-have_no sign w low h.0, solid_words sign ws low h.1) refl

-- words that were joined by spaces have no other byte up to a comma
pub joined_has_no : (sign : ℕ) (ws : List (List ℕ)) → sign ≤ 44 → (32 == sign) ≡ false → list_all solid ws ≡ true → have_no sign (join_with_byte 32 ws) ≡ true
joined_has_no sign [] low apart all = refl
joined_has_no sign (w ∷ []) low apart all = solid-have_no sign w low (and_parts (solid w) true all).0
joined_has_no sign (w ∷ v ∷ ws) low apart all =
    let h = and_parts (solid w) (list_all solid (v ∷ ws)) all in
    list_all-append (λ b. not (b == sign)) w (32 ∷ join_with_byte 32 (v ∷ ws)) ∙ rw (solid-have_no sign w low h.0, apart, joined_has_no sign (v ∷ ws) low apart h.1) refl

pub joined_no_comma : (ws : List (List ℕ)) → list_all solid ws ≡ true → have_no 44 (join_with_byte 32 ws) ≡ true
joined_no_comma ws all = joined_has_no 44 ws (omega arith) refl all

pub joined_no_feed : (ws : List (List ℕ)) → list_all solid ws ≡ true → have_no 10 (join_with_byte 32 ws) ≡ true
joined_no_feed ws all = joined_has_no 10 ws (omega arith) refl all

-- digits have no colon
pub no_colon : (n : ℕ) → n < 2 ^ 64 → have_no 58 (decimal n) ≡ true
no_colon n wide = digits_only 58 refl (decimal n) (figures n wide)
