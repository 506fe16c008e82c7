-- A JSON number that is read as a whole number is written as it.
use Rattle.std.proofs.Common.{◌≡◌, ℕ, suc, ◌+◌, ◌-◌, ◌^◌, ◌<◌, List, [], ◌∷◌, ◌++◌, length, take, drop, get_or, Bool, true, false, cond, Some, None, inl, inr, refl, sym, ap, ◌∙◌, subst, arith, append-nil}
use Rattle.std.specs.Prelude.{◌==◌, ◌&&◌, ◌||◌, not, nat_lt, codes, slice_index, if◌then◌else◌}
use Rattle.std.specs.Char.{is_ascii_digit}
use Rattle.std.specs.Fmt.{decimal}
use Rattle.std.specs.List.{AllByRecursion, prefix_len}
use Rattle.std.specs.Float.{binary64, float_is_finite}
use Rattle.std.specs.Str.Parse.{AllDigits, digits_value}
use Rattle.std.proofs.lemmas.Bool.{true≢false, and_parts, not-true, eqb-true, ne_eqb, ltb-true, leb-true}
use Rattle.std.proofs.lemmas.Fmt.{decimal-digits_value}
use Rattle.std.proofs.lemmas.List.{take_all}
use Rattle.std.proofs.lemmas.Str.Parse.{numerals_by_value, tells_digits}
use Rattle.std.proofs.Math.Seq.{drop-append-add, get_or-append_seam}
use Rattle.std.proofs.lemmas.List.{get_or-append-add}
use Rattle.std.specs.Float.Numeral.{Parts, scan_numeral as scan, numeral_digits as digits_of, digits_end, exponent_start, has_exponent, nearest_float as nearest}
use Rattle.list_law.specs.Members.{IsIn}
use Rattle.list_law.proofs.Members.{IsIn-cons_cases, IsIn-nil}
use Rattle.serde_json.specs.Data.{unsigned, negative, float}
use Rattle.serde_json.specs.Read.{float_of, is_integer, number_from, number_of}
use Rattle.json_law.specs.Grammar.{AreDigits, IsWhole, IsFraction, IsExponent, IsNumber}

abbrev All : List ℕ → Type 0
All w = AllByRecursion (λ d. is_ascii_digit d ≡ true) w

-- ---- where digits end

digits_before : (w r : List ℕ) → All w → prefix_len is_ascii_digit r ≡ 0 → prefix_len is_ascii_digit (w ++ r) ≡ length w
digits_before [] r all none = none
digits_before (d ∷ w) r all none =
    let next : 1 + length w ≡ suc (length w) = omega arith in
    (λ i. cond (all.0 i) (1 + digits_before w r all.1 none i) 0) ∙ next

no_digit : (x : ℕ) (xs : List ℕ) → is_ascii_digit x ≡ false → prefix_len is_ascii_digit (x ∷ xs) ≡ 0
no_digit x xs e = ap (λ b. cond b (1 + prefix_len is_ascii_digit xs) 0) e

end_of : (w r : List ℕ) → All w → prefix_len is_ascii_digit r ≡ 0 → digits_end (w ++ r) 0 ≡ length w
end_of w r all none = omega (arith, digits_before w r all none)

digit_is_not : (d x : ℕ) → is_ascii_digit d ≡ true → is_ascii_digit x ≡ false → (d == x) ≡ false
digit_is_not d x e f = ne_eqb d x (λ z. true≢false (sym e ∙ ap is_ascii_digit z ∙ f))

-- ---- what is whole has no point and no exponent

whole_parts : (p : Parts) → is_integer p ≡ true → (p.point ≡ false) × ((length p.exponent == 0) ≡ true)
whole_parts p h =
    let a = and_parts (nat_lt 0 (length p.whole) && not p.point) (length p.exponent == 0) h in
    let b = and_parts (nat_lt 0 (length p.whole)) (not p.point) a.0 in
    (not-true p.point b.1, a.1)

no_point : (w r : List ℕ) → All w → is_integer (scan (w ++ 46 ∷ r)) ≡ true → ⊥
unfolding scan
no_point w r all h =
    let s = w ++ 46 ∷ r in
    let there : (slice_index s (digits_end s 0) == 46) ≡ true = ap (λ n. slice_index s n == 46) (end_of w (46 ∷ r) all refl) ∙ ap (λ x. x == 46) (get_or-append_seam w 46 r 0) in
    true≢false (sym there ∙ (whole_parts (scan s) h).0)

-- an exponent that is there has digits
module _ (w r ds : List ℕ) (all : All w) (k : ℕ) (digits : AreDigits ds) (none : prefix_len is_ascii_digit r ≡ 0) (marks : has_exponent (w ++ r) (length w) ≡ true)
    (starts : exponent_start (w ++ r) (length w) ≡ length w + k) (rest : drop k r ≡ ds) where
  has_digits : is_integer (scan (w ++ r)) ≡ true → ⊥
  unfolding scan
  has_digits h =
      let s = w ++ r in
      let parts = whole_parts (scan s) h in
      let at : digits_end s 0 ≡ length w = end_of w r all none in
      let b_is : (if slice_index s (digits_end s 0) == 46 then digits_end s (digits_end s 0 + 1) else digits_end s 0) ≡ length w = rw parts.0 at in
      let begins : drop (length w + k) s ≡ ds = drop-append-add w r k ∙ rest in
      let long : prefix_len is_ascii_digit ds ≡ length ds = ap (λ l. prefix_len is_ascii_digit l) (sym (append-nil ds)) ∙ digits_before ds [] digits.1 refl in
      let e_is : (scan s).exponent ≡ ds =
      ap (λ n. if has_exponent s n then take (digits_end s (exponent_start s n) - exponent_start s n) (drop (exponent_start s n) s) else []) b_is
      ∙ ap (λ b. if b then take (digits_end s (exponent_start s (length w)) - exponent_start s (length w)) (drop (exponent_start s (length w)) s) else []) marks
      ∙ ap (λ c. take (digits_end s c - c) (drop c s)) starts
      ∙ ap (λ l. take ((length w + k + prefix_len is_ascii_digit l) - (length w + k)) l) begins
      ∙ (let count : (length w + k + prefix_len is_ascii_digit ds) - (length w + k) ≡ length ds = omega (arith, long) in ap (λ n. take n ds) count ∙ take_all (length ds) ds (omega arith)) in
      let empty : length ds ≡ 0 = eqb-true (length ds) 0 (ap (λ l. length l == 0) (sym e_is) ∙ parts.1) in
      digits.0 (none_there ds empty)
    where
      none_there : (l : List ℕ) → length l ≡ 0 → l ≡ []
      none_there [] e = refl
      none_there (x ∷ xs) e = absurd (omega arith)

-- the letter that begins an exponent
letter_test : (e : ℕ) → IsIn (101 ∷ 69 ∷ []) e → (((e == 101) || (e == 69)) ≡ true) × (is_ascii_digit e ≡ false)
letter_test e h = elim (IsIn-cons_cases 101 (69 ∷ []) e h) [
  | inl a ↦ (ap (λ x. (x == 101) || (x == 69)) (sym a), ap is_ascii_digit (sym a))
  | inr t ↦ elim (IsIn-cons_cases 69 [] e t) [
    | inl a ↦ (ap (λ x. (x == 101) || (x == 69)) (sym a), ap is_ascii_digit (sym a))
    | inr u ↦ absurd (IsIn-nil e u)
  ]
]

signless : (w ds : List ℕ) (e : ℕ) → All w → ((e == 101) || (e == 69)) ≡ true → is_ascii_digit e ≡ false → AreDigits ds → is_integer (scan (w ++ e ∷ ds)) ≡ true → ⊥
signless w [] e all letter none digits h = digits.0 refl
signless w (d ∷ ds) e all letter none digits h =
    let r = e ∷ d ∷ ds in
    let s = w ++ r in
    let next : slice_index s (length w + 1) ≡ d = get_or-append-add w r 1 0 in
    let minus_no : (slice_index s (length w + 1) == 45) ≡ false = ap (λ x. x == 45) next ∙ digit_is_not d 45 digits.1.0 refl in
    let plus_no : (slice_index s (length w + 1) == 43) ≡ false = ap (λ x. x == 43) next ∙ digit_is_not d 43 digits.1.0 refl in
    let starts : exponent_start s (length w) ≡ length w + 1 = rw (minus_no, plus_no) refl in
    let here : slice_index s (length w) ≡ e = get_or-append_seam w e (d ∷ ds) 0 in
    let marks : has_exponent s (length w) ≡ true =
    ap (λ x. (x == 101 || x == 69) && is_ascii_digit (slice_index s (exponent_start s (length w)))) here ∙ ap (λ b. b && is_ascii_digit (slice_index s (exponent_start s (length w)))) letter
    ∙ ap (λ n. is_ascii_digit (slice_index s n)) starts ∙ ap is_ascii_digit next ∙ digits.1.0 in
    has_digits w r (d ∷ ds) all 1 digits (no_digit e (d ∷ ds) none) marks starts refl h

signed : (w ds : List ℕ) (e x : ℕ) → ((x == 45) || (x == 43)) ≡ true → All w → ((e == 101) || (e == 69)) ≡ true → is_ascii_digit e ≡ false → AreDigits ds
    → is_integer (scan (w ++ e ∷ x ∷ ds)) ≡ true → ⊥
signed w [] e x sign all letter none digits h = digits.0 refl
signed w (d ∷ ds) e x sign all letter none digits h =
    let r = e ∷ x ∷ d ∷ ds in
    let s = w ++ r in
    let next : slice_index s (length w + 1) ≡ x = get_or-append-add w r 1 0 in
    let after : slice_index s (length w + 2) ≡ d = get_or-append-add w r 2 0 in
    let starts : exponent_start s (length w) ≡ length w + 2 =
    ap (λ y. if (y == 45 || y == 43) then length w + 2 else length w + 1) next ∙ ap (λ b. if b then length w + 2 else length w + 1) sign in
    let here : slice_index s (length w) ≡ e = get_or-append_seam w e (x ∷ d ∷ ds) 0 in
    let marks : has_exponent s (length w) ≡ true =
    ap (λ y. (y == 101 || y == 69) && is_ascii_digit (slice_index s (exponent_start s (length w)))) here ∙ ap (λ b. b && is_ascii_digit (slice_index s (exponent_start s (length w)))) letter
    ∙ ap (λ n. is_ascii_digit (slice_index s n)) starts ∙ ap is_ascii_digit after ∙ digits.1.0 in
    has_digits w r (d ∷ ds) all 2 digits (no_digit e (x ∷ d ∷ ds) none) marks starts refl h

no_exponent : (w e : List ℕ) → All w → IsExponent e → is_integer (scan (w ++ e)) ≡ true → e ≡ []
no_exponent w e all (inl none) h = none
no_exponent w e all (inr x) h =
    let l = letter_test x.0 x.4 in
    let h2 : is_integer (scan (w ++ x.0 ∷ (x.1 ++ x.2))) ≡ true = ap (λ t. is_integer (scan (w ++ t))) (sym x.3) ∙ h in
    absurd (elim (IsIn-cons_cases [] (codes "+" ∷ codes "-" ∷ []) x.1 x.5) [
      | inl a ↦ signless w x.2 x.0 all l.0 l.1 x.6 (ap (λ t. is_integer (scan (w ++ x.0 ∷ (t ++ x.2)))) a ∙ h2)
      | inr t ↦ elim (IsIn-cons_cases (codes "+") (codes "-" ∷ []) x.1 t) [
        | inl a ↦ signed w x.2 x.0 43 refl all l.0 l.1 x.6 (ap (λ t. is_integer (scan (w ++ x.0 ∷ (t ++ x.2)))) a ∙ h2)
        | inr u ↦ elim (IsIn-cons_cases (codes "-") [] x.1 u) [
          | inl a ↦ signed w x.2 x.0 45 refl all l.0 l.1 x.6 (ap (λ t. is_integer (scan (w ++ x.0 ∷ (t ++ x.2)))) a ∙ h2)
          | inr v ↦ absurd (IsIn-nil x.1 v)
        ]
      ]
    ])

-- ---- the number

never_float : (b : Bool) (x : _) (n : ℕ) → (if b then Some (float x) else None) ≡ Some (unsigned n) → ⊥
never_float true x n h = cc
never_float false x n h = cc

unsigned_from : (p : Parts) (n : ℕ) (b : Bool) → (is_integer p && nat_lt (digits_of p) (2 ^ 64)) ≡ b → (if b then Some (unsigned (digits_of p)) else float_of false p) ≡ Some (unsigned n)
    → (is_integer p ≡ true) × (digits_of p < 2 ^ 64) × (digits_of p ≡ n)
unsigned_from p n true e h = let q = and_parts (is_integer p) (nat_lt (digits_of p) (2 ^ 64)) e in (q.0, ltb-true (digits_of p) (2 ^ 64) q.1, cc)
unsigned_from p n false e h = absurd (never_float (float_is_finite (nearest binary64 false p)) (nearest binary64 false p) n h)

never_negative : (p : Parts) (n : ℕ) (b : Bool) (z : _) → (if b then Some (negative z) else float_of true p) ≡ Some (unsigned n) → ⊥
never_negative p n true z h = cc
never_negative p n false z h = never_float (float_is_finite (nearest binary64 true p)) (nearest binary64 true p) n h

digits_are : (w : List ℕ) → All w → AllDigits 10 w
digits_are [] all = tt
digits_are (d ∷ w) all =
    let q = and_parts _ _ all.0 in
    tells_digits.more d w (leb-true 48 d q.0, leb-true d 57 q.1) (digits_are w all.1)

-- digits of which the first is no zero, or a zero alone
whole_digits : (w : List ℕ) → IsWhole w → All w × (0 < length w) × (get_or w 0 0 ≡ 48 → length w ≡ 1)
whole_digits w (inl e) = (subst All (sym e) (refl, tt), omega (arith, ap (λ l. length l) e), λ z. ap (λ l. length l) e)
whole_digits w (inr x) = (
  x.4.1,
  omega (arith, ap (λ l. length l) x.2),
  λ z. absurd (x.3 (ap (λ l. get_or l 0 0) (sym x.2) ∙ z)),
)

first_byte : (w r : List ℕ) → All w → 0 < length w → (slice_index (w ++ r) 0 == 45) ≡ false
first_byte [] r all some = absurd (omega arith)
first_byte (d ∷ w) r all some = digit_is_not d 45 all.0 refl

whole_read : (w : List ℕ) (n : ℕ) → IsWhole w → is_integer (scan w) ≡ true → digits_of (scan w) < 2 ^ 64 → digits_of (scan w) ≡ n → w ≡ decimal n
unfolding scan
whole_read w n is h small same =
    let d = whole_digits w is in
    let at : digits_end w 0 ≡ length w = ap (λ l. digits_end l 0) (sym (append-nil w)) ∙ end_of w [] d.0 refl in
    let parts = whole_parts (scan w) h in
    let count : digits_end w 0 - 0 ≡ length w = omega (arith, at) in
    let whole : (scan w).whole ≡ w = ap (λ k. take k w) count ∙ take_all (length w) w (omega arith) in
    let fraction : (scan w).fraction ≡ [] = rw parts.0 refl in
    let value : digits_of (scan w) ≡ digits_value 10 w = ap (λ l. digits_value 10 (l ++ (scan w).fraction)) whole ∙ ap (λ l. digits_value 10 (w ++ l)) fraction ∙ ap (λ l. digits_value 10 l) (append-nil w) in
    sym (decimal-digits_value (numerals_by_value _ tells_digits) w (digits_are w d.0) d.1 d.2 (omega (arith, value, small))) ∙ ap decimal (sym value ∙ same)

module _ (w : List ℕ) (n : ℕ) (is : IsWhole w) where
  left_of : (f e : List ℕ) → IsFraction f → IsExponent e → is_integer (scan (w ++ (f ++ e))) ≡ true → f ++ e ≡ []
  left_of f e (inl none) exponent h =
      let h2 : is_integer (scan (w ++ e)) ≡ true = ap (λ t. is_integer (scan (w ++ (t ++ e)))) (sym none) ∙ h in
      ap (λ t. t ++ e) none ∙ no_exponent w e (whole_digits w is).0 exponent h2
  left_of f e (inr x) exponent h =
      let h2 : is_integer (scan (w ++ 46 ∷ (x.0 ++ e))) ≡ true = ap (λ t. is_integer (scan (w ++ (t ++ e)))) (sym x.1) ∙ h in
      absurd (no_point w (x.0 ++ e) (whole_digits w is).0 h2)

  positive : (f e : List ℕ) → IsFraction f → IsExponent e → number_of (w ++ (f ++ e)) ≡ Some (unsigned n) → w ++ (f ++ e) ≡ decimal n
  unfolding number_of
  positive f e fraction exponent h =
      let s = w ++ (f ++ e) in
      let d = whole_digits w is in
      let h2 : number_from false (scan s) ≡ Some (unsigned n) = sym (ap (λ b. if b then number_from true (scan (drop 1 s)) else number_from false (scan s)) (first_byte w (f ++ e) d.0 d.1)) ∙ h in
      let q = unsigned_from (scan s) n (is_integer (scan s) && nat_lt (digits_of (scan s)) (2 ^ 64)) refl h2 in
      let alone : s ≡ w = ap (λ t. w ++ t) (left_of f e fraction exponent q.0) ∙ append-nil w in
      alone ∙ whole_read w n is (ap (λ t. is_integer (scan t)) (sym alone) ∙ q.0) (subst (λ t. digits_of (scan t) < 2 ^ 64) alone q.1) (ap (λ t. digits_of (scan t)) (sym alone) ∙ q.2)

  no_minus : (r : List ℕ) → number_of (45 ∷ r) ≡ Some (unsigned n) → ⊥
  unfolding number_of
  no_minus r h = never_negative (scan r) n _ _ h

pub whole_number : (s : List ℕ) (n : ℕ) → IsNumber s → number_of s ≡ Some (unsigned n) → s ≡ decimal n
whole_number s n number h = elim number.signed [
  | inl none ↦
      let is : s ≡ number.whole ++ (number.fraction ++ number.exponent) = number.written ∙ ap (λ t. t ++ (number.whole ++ (number.fraction ++ number.exponent))) none in
      is ∙ positive number.whole n number.is_whole number.fraction number.exponent number.is_fraction number.is_exponent (ap number_of (sym is) ∙ h)
  | inr minus ↦
      let is : s ≡ 45 ∷ (number.whole ++ (number.fraction ++ number.exponent)) = number.written ∙ ap (λ t. t ++ (number.whole ++ (number.fraction ++ number.exponent))) minus in
      absurd (no_minus number.whole n number.is_whole (number.whole ++ (number.fraction ++ number.exponent)) (ap number_of (sym is) ∙ h))
]
