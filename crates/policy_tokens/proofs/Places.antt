-- The places behind pieces.
use Rattle.std.proofs.Common.{◌≡◌, ℕ, suc, ◌+◌, Bool, true, false, List, [], ◌∷◌, ◌++◌, take, Option, Some, None, Result, Ok, Err, if◌then◌else◌, refl, sym, ap, ◌∙◌, subst, eqb-true, arith}
use Rattle.std.specs.Prelude.{◌==◌, nat_le}
use Rattle.std.specs.List.{prefix_len}
use Rattle.net_base.specs.NameRule.{is_letter, is_name_byte}
use Rattle.net_base.specs.Addresses.{is_figure}
use Rattle.net_base.specs.declared.place.Place.{Place}
use Rattle.net_base.proofs.StepLemmas.{ok_same}
use Rattle.policy_tokens.specs.declared.fault.PolicyFault.{PolicyFault}
use Rattle.policy_tokens.specs.declared.token.TokenKind.{TokenKind}
use Rattle.policy_tokens.specs.Places.{next_place, place_after}
use Rattle.policy_tokens.specs.Tokens.{is_blank, in_line, is_figure_byte, two_signs, one_sign, sign_at, word_piece, piece_at, piece_taken}
use Rattle.policy_tokens.specs.Ahead.{behind_piece}

pub place_after-append : (p : Place) (xs ys : List ℕ) → place_after p (xs ++ ys) ≡ place_after (place_after p xs) ys
place_after-append p [] ys = refl
place_after-append p (x ∷ xs) ys = place_after-append (next_place p x) xs ys

-- no line feed passes the test
abbrev NoFeed : (ℕ → Bool) → Type 0
NoFeed test = test 10 ≡ false

feeds_not : (test : ℕ → Bool) → NoFeed test → (b : ℕ) → test b ≡ true → (b == 10) ≡ false
feeds_not test none b is = by (b == 10) refl
  where
    by : (x : Bool) → (b == 10) ≡ x → (b == 10) ≡ false
    by true e = let same : test 10 ≡ true = subst (λ z. test z ≡ true) (eqb-true b 10 e) is in absurd cc
    by false e = e

abbrev right_of : Place → ℕ → Place
right_of p k = record { line = p.line; column = p.column + k }

right_of-none : (p : Place) → p ≡ right_of p 0
right_of-none p = let e : p.column ≡ p.column + 0 = omega arith in ap (λ c. let q : Place = record { line = p.line; column = c } in q) e

right_of-more : (p : Place) (k : ℕ) → right_of (right_of p 1) k ≡ right_of p (1 + k)
right_of-more p k = let e : p.column + 1 + k ≡ p.column + (1 + k) = omega arith in ap (λ c. let q : Place = record { line = p.line; column = c } in q) e

-- the first byte is no line feed
first_passed : (p : Place) (b n : ℕ) (bs : List ℕ) → (b == 10) ≡ false → place_after p (take (1 + n) (b ∷ bs)) ≡ place_after (right_of p 1) (take n bs)
first_passed p b n bs e =
    let one : 1 + n ≡ suc n = omega arith in
    ap (λ k. place_after p (take k (b ∷ bs))) one
    ∙ ap (λ x. place_after (if x then (let q : Place = record { line = p.line + 1; column = 1 } in q) else right_of p 1) (take n bs)) e

run_place : (test : ℕ → Bool) → NoFeed test → (p : Place) (bs : List ℕ) → place_after p (take (prefix_len test bs) bs) ≡ right_of p (prefix_len test bs)
run_place test none p [] = right_of-none p
run_place test none p (b ∷ bs) = by (test b) refl (run_place test none (right_of p 1) bs)
  where
    by : (x : Bool) → test b ≡ x → place_after (right_of p 1) (take (prefix_len test bs) bs) ≡ right_of (right_of p 1) (prefix_len test bs)
        → place_after p (take (prefix_len test (b ∷ bs)) (b ∷ bs)) ≡ right_of p (prefix_len test (b ∷ bs))
    by true e more = rw e (first_passed p b (prefix_len test bs) bs (feeds_not test none b e) ∙ more ∙ right_of-more p (prefix_len test bs))
    by false e more = rw e (right_of-none p)

-- behind so many of the bytes stands what is told
abbrev Placed : Place → ℕ → List ℕ → Result ℕ PolicyFault → Type 0
Placed place b bs taken = (k : ℕ) → taken ≡ Ok k → place_after place (take k (b ∷ bs)) ≡ behind_piece place b k

placed_ok : (place : Place) (b : ℕ) (bs : List ℕ) (j : ℕ) → place_after place (take j (b ∷ bs)) ≡ behind_piece place b j → Placed place b bs (Ok j)
placed_ok place b bs j is k e = let same = ok_same {F = PolicyFault} j k e in subst (λ z. place_after place (take z (b ∷ bs)) ≡ behind_piece place b z) same is

placed_err : (place : Place) (b : ℕ) (bs : List ℕ) (e : PolicyFault) → Placed place b bs (Err e)
placed_err place b bs e k h = absurd cc

run_placed : (test : ℕ → Bool) → NoFeed test → (place : Place) (b : ℕ) (bs : List ℕ) → (b == 10) ≡ false
    → place_after place (take (1 + prefix_len test bs) (b ∷ bs)) ≡ behind_piece place b (1 + prefix_len test bs)
run_placed test none place b bs e =
    let there = first_passed place b (prefix_len test bs) bs e ∙ run_place test none (right_of place 1) bs ∙ right_of-more place (prefix_len test bs) in
    rw e there

word_placed : (place : Place) (b : ℕ) (bs : List ℕ) → (b == 10) ≡ false → Placed place b bs (piece_taken place (word_piece (1 + prefix_len is_name_byte bs)))
word_placed place b bs e = by (nat_le (1 + prefix_len is_name_byte bs) 32) refl
  where
    by : (x : Bool) → nat_le (1 + prefix_len is_name_byte bs) 32 ≡ x → Placed place b bs (piece_taken place (word_piece (1 + prefix_len is_name_byte bs)))
    by true h = rw h (placed_ok place b bs _ (run_placed is_name_byte refl place b bs e))
    by false h = rw h (placed_err place b bs _)

one_sign_placed : (place : Place) (b : ℕ) (bs : List ℕ) → place_after place (take 1 (b ∷ bs)) ≡ behind_piece place b 1
one_sign_placed place b bs = refl

two_signs_placed : (place : Place) (b c : ℕ) (bs : List ℕ) (kind : TokenKind) → (b == 10) ≡ false → two_signs b c ≡ Some kind → place_after place (take 2 (b ∷ c ∷ bs)) ≡ behind_piece place b 2
two_signs_placed place b c bs kind e is = by (c == 10) refl
  where
    by : (x : Bool) → (c == 10) ≡ x → place_after place (take 2 (b ∷ c ∷ bs)) ≡ behind_piece place b 2
    by true f = let never : two_signs b 10 ≡ Some kind = subst (λ z. two_signs b z ≡ Some kind) (eqb-true c 10 f) is in absurd cc
    by false f =
        first_passed place b 1 (c ∷ bs) e ∙ first_passed (right_of place 1) c 0 bs f ∙ right_of-more place 1
        ∙ sym (ap (λ x. if x then (let q : Place = record { line = place.line + 1; column = 1 } in q) else right_of place 2) e)

sign_placed : (place : Place) (b : ℕ) (bs : List ℕ) → (b == 10) ≡ false → Placed place b bs (piece_taken place (sign_at b bs))
sign_placed place b [] e = by (one_sign b) refl
  where
    by : (o : Option TokenKind) → one_sign b ≡ o → Placed place b [] (piece_taken place (sign_at b []))
    by (Some kind) h = rw h (placed_ok place b [] 1 (one_sign_placed place b []))
    by None h = rw h (placed_err place b [] _)
sign_placed place b (c ∷ bs) e = by (two_signs b c) refl
  where
    one : (o : Option TokenKind) → two_signs b c ≡ None → one_sign b ≡ o → Placed place b (c ∷ bs) (piece_taken place (sign_at b (c ∷ bs)))
    one (Some kind) g h = rw (g, h) (placed_ok place b (c ∷ bs) 1 (one_sign_placed place b (c ∷ bs)))
    one None g h = rw (g, h) (placed_err place b (c ∷ bs) _)

    by : (o : Option TokenKind) → two_signs b c ≡ o → Placed place b (c ∷ bs) (piece_taken place (sign_at b (c ∷ bs)))
    by (Some kind) h = let there = two_signs_placed place b c bs kind e h in rw h (placed_ok place b (c ∷ bs) 2 there)
    by None h = one (one_sign b) h refl

-- the place behind a piece
pub piece_placed : (place : Place) (b : ℕ) (bs : List ℕ) → Placed place b bs (piece_taken place (piece_at (b ∷ bs)))
unfolding piece_at
piece_placed place b bs = by (is_blank b) refl
  where
    feed : (x : Bool) → (b == 10) ≡ x → is_blank b ≡ false → (b == 10) ≡ false
    feed true e h = let never : is_blank 10 ≡ false = subst (λ z. is_blank z ≡ false) (eqb-true b 10 e) h in absurd cc
    feed false e h = e

    figure : (x : Bool) → is_blank b ≡ false → (b == 35) ≡ false → is_letter b ≡ false → is_figure b ≡ x → Placed place b bs (piece_taken place (piece_at (b ∷ bs)))
    figure true e f g h = let there = run_placed is_figure_byte refl place b bs (feed (b == 10) refl e) in rw (e, f, g, h) (placed_ok place b bs _ there)
    figure false e f g h = let there = sign_placed place b bs (feed (b == 10) refl e) in rw (e, f, g, h) there

    letter : (x : Bool) → is_blank b ≡ false → (b == 35) ≡ false → is_letter b ≡ x → Placed place b bs (piece_taken place (piece_at (b ∷ bs)))
    letter true e f g = let there = word_placed place b bs (feed (b == 10) refl e) in rw (e, f, g) there
    letter false e f g = figure (is_figure b) e f g refl

    comment : (x : Bool) → is_blank b ≡ false → (b == 35) ≡ x → Placed place b bs (piece_taken place (piece_at (b ∷ bs)))
    comment true e f = let there = run_placed in_line refl place b bs (feed (b == 10) refl e) in rw (e, f) (placed_ok place b bs _ there)
    comment false e f = letter (is_letter b) e f refl

    by : (x : Bool) → is_blank b ≡ x → Placed place b bs (piece_taken place (piece_at (b ∷ bs)))
    by true e = rw e (placed_ok place b bs 1 (one_sign_placed place b bs))
    by false e = comment (b == 35) e refl
