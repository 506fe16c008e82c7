-- Numbers that are read are written so, and numbers that are written are read again.
use Rattle.std.proofs.Common.{◌≡◌, ℕ, ◌+◌, ◌-◌, ◌*◌, ◌^◌, ◌<◌, List, length, get_or, Bool, true, false, Ok, refl, sym, ◌∙◌, ap, arith, inl, inr}
use Rattle.std.specs.Prelude.{◌&&◌, ◌==◌, not, nat_le, nat_lt, fold, if◌then◌else◌}
use Rattle.std.specs.List.{list_all}
use Rattle.std.specs.Fmt.{decimal}
use Rattle.std.proofs.lemmas.Bool.{and_parts, cases_lt, eqb-false, eq-eqb, ne_eqb, lt-ltb, ltb-true, le-leb, not-true}
use Rattle.std.proofs.lemmas.Fmt.{decimal-digits_value, digits_value-decimal, decimal_nonempty, decimal_digit, first_decimal}
use Rattle.std.proofs.lemmas.Str.Parse.{IsNumeralModel, IsDigitsTest, FoldsDigits, numerals_by_fold}
use Rattle.net_base.specs.Addresses.{is_figure}
use Rattle.net_base.specs.Steps.{unless}
use Rattle.net_base.proofs.StepLemmas.{bind_ok, unless_ok, ok_same}
use Rattle.text_parts.proofs.Numbers.{figure_range}
use Rattle.text_parts.proofs.Words.{figures}
use Rattle.config_lines.specs.declared.line.LineFault.TheVariants.{Form}
use Rattle.config_lines.specs.declared.number.Figure.TheVariants.{LeadingZero, Large, Value}
use Rattle.config_lines.specs.Numbers.{is_number, is_padded, value_of, with_digit, figure_of, number_of}

digits_test : IsDigitsTest (λ ds. list_all is_figure ds ≡ true)
digits_test = record {
  empty = refl;
  parts = λ c cs h. let p = and_parts (is_figure c) (list_all is_figure cs) h in (figure_range c p.0, p.1);
  more = λ c cs r h. rw (le-leb 48 c r.0, le-leb c 57 r.1, h) refl;
}

digits_fold : FoldsDigits (fold with_digit)
digits_fold = record {
  empty = λ n. refl;
  more = λ n c cs r. let same : with_digit n c ≡ n * 10 + (c - 48) = omega arith in ap (λ (m : ℕ). fold with_digit m cs) same;
}

pub numbers : IsNumeralModel (λ ds. list_all is_figure ds ≡ true) value_of
numbers = numerals_by_fold _ digits_test (fold with_digit) digits_fold

and_off : (b : Bool) → (b && false) ≡ false
and_off true = refl
and_off false = refl

not_padded : (n : ℕ) → n < 2 ^ 32 → is_padded (decimal n) ≡ false
not_padded n low = elim (cases_lt n 10) [
  | inl t ↦ rw (decimal_digit n t) refl
  | inr t ↦ rw (ne_eqb (get_or (decimal n) 0 0) 48 (λ e. omega (arith, e, first_decimal n (omega (arith, t)) (omega (arith, low))))) (and_off (nat_le 2 (length (decimal n))))
]

-- a number is read from its text
pub number_there : (n : ℕ) → n < 2 ^ 32 → number_of (decimal n) ≡ Ok (Value n)
unfolding number_of
number_there n low =
    let wide : n < 2 ^ 64 = omega (arith, low) in
    let some : (length (decimal n) == 0) ≡ false = ne_eqb (length (decimal n)) 0 (λ e. omega (arith, e, decimal_nonempty n wide)) in
    rw (some, figures n wide, not_padded n low, digits_value-decimal numbers n wide, lt-ltb n (2 ^ 32) low) refl

-- what is read as a number is its text
pub number_back : (w : List ℕ) (n : ℕ) → number_of w ≡ Ok (Value n) → (w ≡ decimal n) × (n < 2 ^ 32)
unfolding number_of
number_back w n h =
    let u = bind_ok (unless Form (is_number w)) (λ _. Ok (figure_of w)) (Value n) h in
    let is = and_parts (not (length w == 0)) (list_all is_figure w) (unless_ok Form (is_number w) u.0 u.1) in
    by is.0 is.1 (is_padded w) (nat_lt (value_of w) (2 ^ 32)) refl refl (ok_same (figure_of w) (Value n) u.2)
  where
    by : not (length w == 0) ≡ true → list_all is_figure w ≡ true → (p q : Bool) → is_padded w ≡ p → nat_lt (value_of w) (2 ^ 32) ≡ q
        → (if p then LeadingZero else (if q then Value (value_of w) else Large)) ≡ Value n → (w ≡ decimal n) × (n < 2 ^ 32)
    by some all true q e f k = absurd cc
    by some all false false e f k = absurd cc
    by some all false true e f k =
        let same : value_of w ≡ n = cc in
        let low = ltb-true (value_of w) (2 ^ 32) f in
        let apart = eqb-false (length w) 0 (not-true (length w == 0) some) in
        let lead : get_or w 0 0 ≡ 48 → length w ≡ 1 = λ z. elim (cases_lt (length w) 2) [
          | inl t ↦ omega (arith, t, apart)
          | inr t ↦ let padded : is_padded w ≡ true = rw (le-leb 2 (length w) t, eq-eqb (get_or w 0 0) 48 z) refl in absurd cc
        ] in
        let back : decimal (value_of w) ≡ w = decimal-digits_value numbers w all (omega (arith, apart)) lead (omega (arith, low)) in
        (sym back ∙ ap decimal same, omega (arith, low, same))
