-- What is read as a number is written as one.
use Rattle.std.proofs.Common.{◌≡◌, ℕ, suc, ◌+◌, List, [], ◌∷◌, ◌++◌, drop, Bool, true, false, cond, Some, inl, inr, ◌⊎◌, refl, sym, ap, ◌∙◌, subst, arith, append_assoc}
use Rattle.std.specs.Prelude.{◌==◌, ◌||◌, codes, option_and_then}
use Rattle.std.specs.Char.{is_ascii_digit}
use Rattle.std.specs.List.{AllByRecursion, prefix_len}
use Rattle.std.proofs.lemmas.Bool.{eqb-true, eqb-false, or_cases}
use Rattle.list_law.proofs.Options.{option_and_then_parts, unless_parts}
use Rattle.list_law.specs.Members.{IsIn}
use Rattle.json.specs.Word.{after_digits, after_minus, after_sign, after_whole, after_fraction, after_exponent, after_number}
use Rattle.json_law.specs.Grammar.{AreDigits, IsWhole, IsFraction, IsExponent, IsNumber}

-- the digits at the front
record Run (t : List ℕ) (n : ℕ) : Type 0 where
  ds : List ℕ
  is : t ≡ ds ++ drop n t
  all : AllByRecursion (λ d. is_ascii_digit d ≡ true) ds
  none : ds ≡ [] → n ≡ 0

run_byte : (b : Bool) (x n : ℕ) (xs : List ℕ) → is_ascii_digit x ≡ b → Run xs n → Run (x ∷ xs) (cond b (1 + n) 0)
run_byte true x n xs e r =
    let next : suc n ≡ 1 + n = omega arith in
    subst (Run (x ∷ xs)) next (record { ds = x ∷ r.ds; is = ap (λ t. x ∷ t) r.is; all = (e, r.all); none = λ z. absurd cc })
run_byte false x n xs e r = record { ds = []; is = refl; all = tt; none = λ z. refl }

run : (t : List ℕ) → Run t (prefix_len is_ascii_digit t)
run [] = record { ds = []; is = refl; all = tt; none = λ z. refl }
run (x ∷ xs) = run_byte (is_ascii_digit x) x (prefix_len is_ascii_digit xs) xs refl (run xs)

digits_parts : (t r : List ℕ) → after_digits t ≡ Some r → (ds : List ℕ) × (t ≡ ds ++ r) × AreDigits ds
digits_parts t r h =
    let n = prefix_len is_ascii_digit t in
    let p = unless_parts (n == 0) (Some (drop n t)) r h in
    let same : drop n t ≡ r = let e = p.1 in cc in
    let d = run t in
    (d.ds, d.is ∙ ap (λ l. d.ds ++ l) same, (λ z. eqb-false n 0 p.0 (d.none z), d.all))

-- ---- the parts

one_byte : (a x : ℕ) (xs : List ℕ) → (x == a) ≡ true → x ∷ xs ≡ (a ∷ []) ++ xs
one_byte a x xs e = ap (λ y. y ∷ xs) (eqb-true x a e)

minus_byte : (b : Bool) (x : ℕ) (xs : List ℕ) → (x == 45) ≡ b → (sign : List ℕ) × (x ∷ xs ≡ sign ++ cond b xs (x ∷ xs)) × ((sign ≡ []) ⊎ (sign ≡ codes "-"))
minus_byte true x xs e = (45 ∷ [], one_byte 45 x xs e, inr refl)
minus_byte false x xs e = ([], refl, inl refl)

minus_parts : (t : List ℕ) → (sign : List ℕ) × (t ≡ sign ++ after_minus t) × ((sign ≡ []) ⊎ (sign ≡ codes "-"))
minus_parts [] = ([], refl, inl refl)
minus_parts (x ∷ xs) = minus_byte (x == 45) x xs refl

sign_byte : (m p : Bool) (x : ℕ) (xs : List ℕ) → (x == 45) ≡ m → (x == 43) ≡ p
    → (sign : List ℕ) × (x ∷ xs ≡ sign ++ cond (m || p) xs (x ∷ xs)) × IsIn ([] ∷ codes "+" ∷ codes "-" ∷ []) sign
sign_byte true p x xs e f = (45 ∷ [], one_byte 45 x xs e, (2, refl))
sign_byte false true x xs e f = (43 ∷ [], one_byte 43 x xs f, (1, refl))
sign_byte false false x xs e f = ([], refl, (0, refl))

sign_parts : (t : List ℕ) → (sign : List ℕ) × (t ≡ sign ++ after_sign t) × IsIn ([] ∷ codes "+" ∷ codes "-" ∷ []) sign
sign_parts [] = ([], refl, (0, refl))
sign_parts (x ∷ xs) = sign_byte (x == 45) (x == 43) x xs refl refl

nonzero : (x : ℕ) (xs r ds : List ℕ) → (x == 48) ≡ false → x ∷ xs ≡ ds ++ r → AreDigits ds → IsWhole ds
nonzero x xs r [] e is d = absurd (d.0 refl)
nonzero x xs r (d0 ∷ ds) e is d =
    let first : x ≡ d0 = cc in
    inr (d0, ds, refl, λ z. eqb-false x 48 e (first ∙ z), d)

whole_byte : (b : Bool) (x : ℕ) (xs r : List ℕ) → (x == 48) ≡ b → cond b (Some xs) (after_digits (x ∷ xs)) ≡ Some r → (w : List ℕ) × (x ∷ xs ≡ w ++ r) × IsWhole w
whole_byte true x xs r e h = let same : xs ≡ r = cc in (48 ∷ [], one_byte 48 x xs e ∙ ap (λ t. 48 ∷ t) same, inl refl)
whole_byte false x xs r e h = let p = digits_parts (x ∷ xs) r h in (p.0, p.1, nonzero x xs r p.0 e p.1 p.2)

whole_parts : (t r : List ℕ) → after_whole t ≡ Some r → (w : List ℕ) × (t ≡ w ++ r) × IsWhole w
whole_parts [] r h = absurd cc
whole_parts (x ∷ xs) r h = whole_byte (x == 48) x xs r refl h

left_out : (t r : List ℕ) → Some t ≡ Some r → t ≡ r
left_out t r h = cc

fraction_byte : (b : Bool) (x : ℕ) (xs r : List ℕ) → (x == 46) ≡ b → cond b (after_digits xs) (Some (x ∷ xs)) ≡ Some r → (f : List ℕ) × (x ∷ xs ≡ f ++ r) × IsFraction f
fraction_byte true x xs r e h =
    let p = digits_parts xs r h in
    (46 ∷ p.0, one_byte 46 x xs e ∙ ap (λ t. 46 ∷ t) p.1, inr (p.0, refl, p.2))
fraction_byte false x xs r e h = ([], left_out _ r h, inl refl)

fraction_parts : (t r : List ℕ) → after_fraction t ≡ Some r → (f : List ℕ) × (t ≡ f ++ r) × IsFraction f
fraction_parts [] r h = ([], left_out _ r h, inl refl)
fraction_parts (x ∷ xs) r h = fraction_byte (x == 46) x xs r refl h

letter : (x : ℕ) → ((x == 101) ≡ true) ⊎ ((x == 69) ≡ true) → IsIn (101 ∷ 69 ∷ []) x
letter x (inl e) = (0, ap Some (sym (eqb-true x 101 e)))
letter x (inr e) = (1, ap Some (sym (eqb-true x 69 e)))

exponent_byte : (b : Bool) (x : ℕ) (xs r : List ℕ) → ((x == 101) || (x == 69)) ≡ b → cond b (after_digits (after_sign xs)) (Some (x ∷ xs)) ≡ Some r
    → (f : List ℕ) × (x ∷ xs ≡ f ++ r) × IsExponent f
exponent_byte true x xs r e h =
    let s = sign_parts xs in
    let p = digits_parts (after_sign xs) r h in (
      x ∷ (s.0 ++ p.0),
      ap (λ t. x ∷ t) (s.1 ∙ ap (λ t. s.0 ++ t) p.1 ∙ sym (append_assoc s.0 p.0 r)),
      inr (x, s.0, p.0, refl, letter x (or_cases (x == 101) (x == 69) e), s.2, p.2),
    )
exponent_byte false x xs r e h = ([], left_out _ r h, inl refl)

exponent_parts : (t r : List ℕ) → after_exponent t ≡ Some r → (f : List ℕ) × (t ≡ f ++ r) × IsExponent f
exponent_parts [] r h = ([], left_out _ r h, inl refl)
exponent_parts (x ∷ xs) r h = exponent_byte ((x == 101) || (x == 69)) x xs r refl h

regroup : (a b c d r : List ℕ) → a ++ (b ++ (c ++ (d ++ r))) ≡ (a ++ (b ++ (c ++ d))) ++ r
regroup a b c d r = simp append_assoc refl

pub number_parts : (t r : List ℕ) → after_number t ≡ Some r → (w : List ℕ) × (t ≡ w ++ r) × IsNumber w
unfolding after_number
number_parts t r h =
    let p = option_and_then_parts after_exponent (option_and_then after_fraction (after_whole (after_minus t))) r h in
    let q = option_and_then_parts after_fraction (after_whole (after_minus t)) p.0 p.1 in
    let s = minus_parts t in
    let w = whole_parts (after_minus t) q.0 q.1 in
    let f = fraction_parts q.0 p.0 q.2 in
    let e = exponent_parts p.0 r p.2 in (
      s.0 ++ (w.0 ++ (f.0 ++ e.0)),
      s.1 ∙ ap (λ t. s.0 ++ t) (w.1 ∙ ap (λ t. w.0 ++ t) (f.1 ∙ ap (λ t. f.0 ++ t) e.1)) ∙ regroup s.0 w.0 f.0 e.0 r,
      record { sign = s.0; whole = w.0; fraction = f.0; exponent = e.0; written = refl; signed = s.2; is_whole = w.2; is_fraction = f.2; is_exponent = e.2 },
    )
