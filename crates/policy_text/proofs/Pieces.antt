-- What stands at the front of a printed text.
use Rattle.std.proofs.Common.{◌≡◌, ℕ, ◌+◌, ◌<◌, ◌≤◌, List, [], ◌∷◌, ◌++◌, length, Bool, true, false, Option, Some, None, Ok, refl, arith, inl, inr}
use Rattle.std.specs.Prelude.{◌&&◌, ◌==◌, not, nat_le, slice_index}
use Rattle.std.specs.List.{list_all, prefix_len}
use Rattle.std.proofs.lemmas.Bool.{and_parts, or_cases, leb-true, lt-leb, ne_eqb, not-true}
use Rattle.list_law.proofs.Positions.{prefix_len-append_all}
use Rattle.list_law.proofs.Truth.{if_same}
use Rattle.net_base.specs.NameRule.{is_letter, is_name_byte}
use Rattle.net_base.specs.Addresses.{is_figure}
use Rattle.net_base.specs.declared.place.Place.{Place}
use Rattle.policy_tokens.specs.declared.token.TokenKind.{TokenKind}
use Rattle.policy_tokens.specs.declared.token.TokenKind.TheVariants.{Word, Figure, Arrow, Above}
use Rattle.policy_tokens.specs.Tokens.{is_blank, is_figure_byte, one_sign, sign_at, piece_at, piece_taken, token_in}
use Rattle.text_parts.proofs.Numbers.{figure_range}
use Rattle.policy_text.proofs.Cuts.{BeginsWith, BeginsBlank}

-- no word and no figure goes on with this text
abbrev pub is_free : List ℕ → Bool
is_free [] = true
is_free (b ∷ bs) = not (is_name_byte b) && not (is_figure_byte b)

-- at most 32 bytes of words, a letter first
abbrev pub is_word : List ℕ → Bool
is_word bs = not (length bs == 0) && (nat_le (length bs) 32 && (is_letter (slice_index bs 0) && list_all is_name_byte bs))

free_name : (t : List ℕ) → is_free t ≡ true → prefix_len is_name_byte t ≡ 0
free_name [] free = refl
free_name (b ∷ bs) free = rw (not-true (is_name_byte b) (and_parts (not (is_name_byte b)) _ free).0) refl

free_figure : (t : List ℕ) → is_free t ≡ true → prefix_len is_figure_byte t ≡ 0
free_figure [] free = refl
free_figure (b ∷ bs) free = rw (not-true (is_figure_byte b) (and_parts (not (is_name_byte b)) _ free).1) refl

-- letters are high bytes
letter_high : (b : ℕ) → is_letter b ≡ true → (65 ≤ b) × (b < 123)
letter_high b h = elim (or_cases (nat_le 97 b && nat_le b 122) (nat_le 65 b && nat_le b 90) h) [
  | inl x ↦ let p = and_parts (nat_le 97 b) (nat_le b 122) x in (omega (arith, leb-true 97 b p.0), omega (arith, leb-true b 122 p.1))
  | inr x ↦ let p = and_parts (nat_le 65 b) (nat_le b 90) x in (omega (arith, leb-true 65 b p.0), omega (arith, leb-true b 90 p.1))
]

pub name_byte_ascii : (b : ℕ) → is_name_byte b ≡ true → b < 128
name_byte_ascii b h = grind (arith, letter_high)

module _ (b : ℕ) (bs t : List ℕ) (free : is_free t ≡ true) where
  pub BeginsWith-word : is_word (b ∷ bs) ≡ true → BeginsWith Word (b ∷ bs) (b ∷ (bs ++ t))
  unfolding piece_at
  BeginsWith-word h =
      let h1 = and_parts (not (length (b ∷ bs) == 0)) _ h in
      let h2 = and_parts (nat_le (length (b ∷ bs)) 32) _ h1.1 in
      let h3 = and_parts (is_letter b) (list_all is_name_byte (b ∷ bs)) h2.1 in
      let h4 = and_parts (is_name_byte b) (list_all is_name_byte bs) h3.1 in
      let high = letter_high b h3.0 in
      let size : 1 + length bs ≡ length (b ∷ bs) = omega arith in
      rw (
        ne_eqb b 32 (λ e. omega (arith, e, high.0)),
        ne_eqb b 9 (λ e. omega (arith, e, high.0)),
        ne_eqb b 13 (λ e. omega (arith, e, high.0)),
        ne_eqb b 10 (λ e. omega (arith, e, high.0)),
        ne_eqb b 35 (λ e. omega (arith, e, high.0)),
        h3.0,
        prefix_len-append_all is_name_byte bs t h4.1 (free_name t free),
        size,
        h2.0,
      )
      (λ place. refl, λ from place. refl)

  pub BeginsWith-figure : is_figure b ≡ true → list_all is_figure_byte bs ≡ true → BeginsWith Figure (b ∷ bs) (b ∷ (bs ++ t))
  unfolding piece_at
  BeginsWith-figure digit all =
      let range = figure_range b digit in
      let size : 1 + length bs ≡ length (b ∷ bs) = omega arith in
      rw (
        ne_eqb b 32 (λ e. omega (arith, e, range.0)),
        ne_eqb b 9 (λ e. omega (arith, e, range.0)),
        ne_eqb b 13 (λ e. omega (arith, e, range.0)),
        ne_eqb b 10 (λ e. omega (arith, e, range.0)),
        ne_eqb b 35 (λ e. omega (arith, e, range.0)),
        lt-leb 97 b (omega (arith, range.1)),
        lt-leb 65 b (omega (arith, range.1)),
        digit,
        prefix_len-append_all is_figure_byte bs t all (free_figure t free),
        size,
      )
      (λ place. refl, λ from place. refl)

-- signs of one byte
module _ (a : ℕ) (kind : TokenKind) (one : one_sign a ≡ Some kind) (arrow : (a == 61) ≡ false) (above : (a == 62) ≡ false) where
  one_byte : (t : List ℕ)
      → ((place : Place) → piece_taken place (sign_at a t) ≡ Ok 1)
      × ((from : ℕ) (place : Place) → token_in from place (sign_at a t) ≡ record { kind = kind; from = from; to = from + 1; place = place } ∷ [])
  one_byte [] = rw one (λ place. refl, λ from place. refl)
  one_byte (b ∷ bs) = let none : Option TokenKind = None in rw (one, arrow, above, if_same (b == 62) none) (λ place. refl, λ from place. refl)

  pub BeginsWith-sign : is_blank a ≡ false → (a == 35) ≡ false → is_letter a ≡ false → is_figure a ≡ false → (t : List ℕ) → BeginsWith kind (a ∷ []) (a ∷ t)
  unfolding piece_at
  BeginsWith-sign blank comment letter digit t = rw (blank, comment, letter, digit) (one_byte t)

pub BeginsWith-arrow : (t : List ℕ) → BeginsWith Arrow (61 ∷ 62 ∷ []) (61 ∷ 62 ∷ t)
unfolding piece_at
BeginsWith-arrow t = (λ place. refl, λ from place. refl)

pub BeginsWith-above : (t : List ℕ) → BeginsWith Above (62 ∷ 62 ∷ []) (62 ∷ 62 ∷ t)
unfolding piece_at
BeginsWith-above t = (λ place. refl, λ from place. refl)

pub BeginsBlank-space : (t : List ℕ) → BeginsBlank (32 ∷ t)
unfolding piece_at
BeginsBlank-space t = (λ place. refl, λ from place. refl)

pub BeginsBlank-line : (t : List ℕ) → BeginsBlank (10 ∷ t)
unfolding piece_at
BeginsBlank-line t = (λ place. refl, λ from place. refl)
