-- The pieces of a text.
use Rattle.std.proofs.Common.{◌≡◌, ℕ, suc, ◌+◌, ◌≤◌, ◌<◌, Bool, true, false, ◌⊎◌, inl, inr, List, [], ◌∷◌, length, Option, Some, None, Result, Ok, Err, refl, arith, ap}
use Rattle.std.proofs.Common.{◌∙◌, ◌++◌, subst, eqb-true, not}
use Rattle.std.specs.Prelude.{◌==◌, nat_le}
use Rattle.std.specs.List.{prefix_len, AllByRecursion}
use Rattle.std.proofs.lemmas.List.Sums.{prefix_len-le-length}
use Rattle.net_base.specs.NameRule.{is_letter, is_name_byte}
use Rattle.net_base.specs.Addresses.{is_figure}
use Rattle.net_base.specs.declared.place.Place.{Place}
use Rattle.net_base.proofs.StepLemmas.{ok_same}
use Rattle.policy_tokens.specs.declared.fault.PolicyFault.{PolicyFault}
use Rattle.policy_tokens.specs.declared.token.Token.{Token}
use Rattle.policy_tokens.specs.declared.token.TokenKind.{TokenKind}
use Rattle.policy_tokens.specs.declared.token.TokenKind.TheVariants.{Word, Figure}
use Rattle.policy_tokens.specs.Tokens.{is_blank, in_line, is_figure_byte, two_signs, one_sign, sign_at, word_piece, piece_at, piece_taken, token_in}

-- nothing follows, or a line end
abbrev pub LineEnds : List ℕ → Type 0
LineEnds rest = (rest ≡ []) ⊎ ((bs : List ℕ) × (rest ≡ 10 ∷ bs))

-- so many bytes at the front are a blank, or a comment up to the end of its line
abbrev pub FrontIsGap : List ℕ → ℕ → Type 0
FrontIsGap bytes k =
    ((b : ℕ) × (bs : List ℕ) × (bytes ≡ b ∷ bs) × (is_blank b ≡ true) × (k ≡ 1))
    ⊎ ((line rest : List ℕ) × (bytes ≡ 35 ∷ line ++ rest) × (k ≡ suc (length line)) × AllByRecursion (λ b. in_line b ≡ true) line × LineEnds rest)

comment_line : (bs : List ℕ) → (line rest : List ℕ) × (bs ≡ line ++ rest) × (prefix_len in_line bs ≡ length line) × AllByRecursion (λ b. in_line b ≡ true) line × LineEnds rest
comment_line [] = ([], [], refl, refl, tt, inl refl)
comment_line (b ∷ bs) = by (b == 10) refl (comment_line bs)
  where
    Line : Type 0
    Line = (line rest : List ℕ) × (b ∷ bs ≡ line ++ rest) × (prefix_len in_line (b ∷ bs) ≡ length line) × AllByRecursion (λ b. in_line b ≡ true) line × LineEnds rest

    by : (x : Bool) → (b == 10) ≡ x → (line rest : List ℕ) × (bs ≡ line ++ rest) × (prefix_len in_line bs ≡ length line) × AllByRecursion (λ b. in_line b ≡ true) line × LineEnds rest → Line
    by true e r = ([], b ∷ bs, refl, rw e refl, tt, inr (bs, ap (λ z. z ∷ bs) (eqb-true b 10 e)))
    by false e r =
        let more : prefix_len in_line (b ∷ bs) ≡ length (b ∷ r.0) = rw e (omega (arith, r.3)) in
        (b ∷ r.0, r.1, ap (λ z. b ∷ z) r.2, more, (ap not e, r.4), r.5)

-- a piece of so many bytes has one at least, and no more than there are; and it is no token, or one that has its bytes
abbrev pub Part : ℕ → Place → ℕ → (ℕ → Type 0) → List Token → ℕ → Type 0
Part from place n Gap tokens k =
    (0 < k) × (k ≤ n) × ((tokens ≡ []) × Gap k ⊎ ((t : Token) × (tokens ≡ t ∷ []) × (t.from ≡ from) × (t.to ≡ from + k) × (t.place ≡ place)))

-- What is known of a piece by what it takes and the tokens in it. What may not stand in a text is no token.
abbrev pub Parts : ℕ → Place → ℕ → (ℕ → Type 0) → Result ℕ PolicyFault → List Token → Type 0
Parts from place n Gap taken tokens = ((k : ℕ) → taken ≡ Ok k → Part from place n Gap tokens k) × ((e : PolicyFault) → taken ≡ Err e → tokens ≡ [])

gap_parts : (from : ℕ) (place : Place) (j n : ℕ) (Gap : ℕ → Type 0) → 0 < j → j ≤ n → Gap j → Parts from place n Gap (Ok j) []
gap_parts from place j n Gap some le gap = (parts, λ e h. refl)
  where
    parts : (k : ℕ) → (let r : Result ℕ PolicyFault = Ok j in r ≡ Ok k) → Part from place n Gap [] k
    parts k e = let same = ok_same {F = PolicyFault} j k e in (omega arith, omega arith, inl (refl, subst Gap same gap))

token_parts : (from : ℕ) (place : Place) (kind : TokenKind) (j n : ℕ) (Gap : ℕ → Type 0) → 0 < j → j ≤ n
    → Parts from place n Gap (Ok j) (record { kind = kind; from = from; to = from + j; place = place } ∷ [])
token_parts from place kind j n Gap some le = (parts, λ e h. absurd cc)
  where
    here : Token
    here = record { kind = kind; from = from; to = from + j; place = place }

    parts : (k : ℕ) → (let r : Result ℕ PolicyFault = Ok j in r ≡ Ok k) → Part from place n Gap (here ∷ []) k
    parts k e = let same = ok_same {F = PolicyFault} j k e in (omega arith, omega arith, inr (here, refl, refl, omega arith, refl))

stray_parts : (from : ℕ) (place : Place) (n : ℕ) (Gap : ℕ → Type 0) (e : PolicyFault) → Parts from place n Gap (Err e) []
stray_parts from place n Gap e = (λ k h. absurd cc, λ f h. refl)

-- ---- words and signs

word_parts : (from : ℕ) (place : Place) (j n : ℕ) (Gap : ℕ → Type 0) → 0 < j → j ≤ n → Parts from place n Gap (piece_taken place (word_piece j)) (token_in from place (word_piece j))
word_parts from place j n Gap some le = by (nat_le j 32) refl
  where
    by : (b : Bool) → nat_le j 32 ≡ b → Parts from place n Gap (piece_taken place (word_piece j)) (token_in from place (word_piece j))
    by true e = rw e (token_parts from place Word j n Gap some le)
    by false e = rw e (stray_parts from place n Gap _)

sign_parts : (from : ℕ) (place : Place) (a : ℕ) (bs : List ℕ) (Gap : ℕ → Type 0) → Parts from place (suc (length bs)) Gap (piece_taken place (sign_at a bs)) (token_in from place (sign_at a bs))
sign_parts from place a [] Gap = by (one_sign a) refl
  where
    by : (o : Option TokenKind) → one_sign a ≡ o → Parts from place 1 Gap (piece_taken place (sign_at a [])) (token_in from place (sign_at a []))
    by (Some kind) e = rw e (token_parts from place kind 1 1 Gap (omega arith) (omega arith))
    by None e = rw e (stray_parts from place 1 Gap _)
sign_parts from place a (b ∷ bs) Gap = by (two_signs a b) refl
  where
    n : ℕ
    n = suc (suc (length bs))

    one : (o : Option TokenKind) → two_signs a b ≡ None → one_sign a ≡ o → Parts from place n Gap (piece_taken place (sign_at a (b ∷ bs))) (token_in from place (sign_at a (b ∷ bs)))
    one (Some kind) e f = rw (e, f) (token_parts from place kind 1 n Gap (omega arith) (omega arith))
    one None e f = rw (e, f) (stray_parts from place n Gap _)

    by : (o : Option TokenKind) → two_signs a b ≡ o → Parts from place n Gap (piece_taken place (sign_at a (b ∷ bs))) (token_in from place (sign_at a (b ∷ bs)))
    by (Some kind) e = rw e (token_parts from place kind 2 n Gap (omega arith) (omega arith))
    by None e = one (one_sign a) e refl

-- ---- any piece

abbrev FrontParts : ℕ → Place → List ℕ → Type 0
FrontParts from place bytes = Parts from place (length bytes) (FrontIsGap bytes) (piece_taken place (piece_at bytes)) (token_in from place (piece_at bytes))

pub piece_parts : (from : ℕ) (place : Place) (b : ℕ) (bs : List ℕ) → FrontParts from place (b ∷ bs)
unfolding piece_at
piece_parts from place b bs = by (is_blank b) refl
  where
    n : ℕ
    n = suc (length bs)

    Gap : ℕ → Type 0
    Gap = FrontIsGap (b ∷ bs)

    line : (b == 35) ≡ true → (line rest : List ℕ) × (b ∷ bs ≡ 35 ∷ line ++ rest) × (1 + prefix_len in_line bs ≡ suc (length line)) × AllByRecursion (λ b. in_line b ≡ true) line × LineEnds rest
    line f =
        let r = comment_line bs in
        (r.0, r.1, ap (λ z. z ∷ bs) (eqb-true b 35 f) ∙ ap (λ z. 35 ∷ z) r.2, omega (arith, r.3), r.4, r.5)

    figure : (x : Bool) → is_blank b ≡ false → (b == 35) ≡ false → is_letter b ≡ false → is_figure b ≡ x → FrontParts from place (b ∷ bs)
    figure true e f g h = let le = prefix_len-le-length is_figure_byte bs in rw (e, f, g, h) (token_parts from place Figure (1 + prefix_len is_figure_byte bs) n Gap (omega arith) (omega arith))
    figure false e f g h = rw (e, f, g, h) (sign_parts from place b bs Gap)

    letter : (x : Bool) → is_blank b ≡ false → (b == 35) ≡ false → is_letter b ≡ x → FrontParts from place (b ∷ bs)
    letter true e f g = let le = prefix_len-le-length is_name_byte bs in rw (e, f, g) (word_parts from place (1 + prefix_len is_name_byte bs) n Gap (omega arith) (omega arith))
    letter false e f g = figure (is_figure b) e f g refl

    comment : (x : Bool) → is_blank b ≡ false → (b == 35) ≡ x → FrontParts from place (b ∷ bs)
    comment true e f = let le = prefix_len-le-length in_line bs in rw (e, f) (gap_parts from place (1 + prefix_len in_line bs) n Gap (omega arith) (omega arith) (inr (line f)))
    comment false e f = letter (is_letter b) e f refl

    by : (x : Bool) → is_blank b ≡ x → FrontParts from place (b ∷ bs)
    by true e = rw e (gap_parts from place 1 n Gap (omega arith) (omega arith) (inl (b, bs, refl, e, refl)))
    by false e = comment (b == 35) e refl
