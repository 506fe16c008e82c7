-- One token of a text after another.
use Rattle.std.proofs.Common.{◌≡◌, ℕ, zero, suc, ◌-◌, ◌+◌, ◌≤◌, ◌<◌, Bool, true, false, List, [], ◌∷◌, ◌++◌, length, take, drop, Result, Ok, Err, refl, sym, ap, ◌∙◌, subst}
use Rattle.std.proofs.Common.{eqb-true, length-drop, drop-drop, take-append-drop, slice_index_or, arith}
use Rattle.std.proofs.lemmas.List.{append-nil, take_all}
use Rattle.std.specs.Prelude.{◌==◌}
use Rattle.net_base.specs.declared.place.Place.{Place}
use Rattle.net_base.specs.Steps.{◌>>=◌}
use Rattle.policy_tokens.specs.declared.fault.PolicyFault.{PolicyFault}
use Rattle.policy_tokens.specs.declared.fault.PolicyFault.TheVariants as fault
use Rattle.policy_tokens.specs.declared.token.Token.{Token}
use Rattle.policy_tokens.specs.declared.token.TokenKind.{TokenKind}
use Rattle.policy_tokens.specs.declared.piece.Piece.{Piece}
use Rattle.policy_tokens.specs.declared.piece.Piece.TheVariants as piece
use Rattle.policy_tokens.specs.declared.next.Next.{Next}
use Rattle.policy_tokens.specs.declared.next.Next.TheVariants as next
use Rattle.policy_tokens.specs.Places.{place_after, first_place, place_of}
use Rattle.policy_tokens.specs.Tokens.{piece_at, piece_taken, token_in, tokens_from}
use Rattle.policy_tokens.specs.Ahead.{Ahead, behind_piece, behind_token, with_piece, ahead, ahead_of, from_next, IsPlace, told}
use Rattle.policy_tokens.proofs.Pieces.{piece_parts}
use Rattle.policy_tokens.proofs.Places.{piece_placed, place_after-append}

-- ---- the number only counts down

with_same : (r : Result ℕ PolicyFault) (tokens : List Token) (place : Place) (f g : ℕ → Ahead) → ((k : ℕ) → r ≡ Ok k → f k ≡ g k) → with_piece r tokens place f ≡ with_piece r tokens place g
with_same (Ok k) tokens place f g same = ap (λ (a : Ahead). let b : Ahead = (tokens ++ a.0, a.1) in b) (same k refl)
with_same (Err e) tokens place f g same = refl

pub ahead-any : (n m from : ℕ) (place : Place) (bytes : List ℕ) → length bytes ≤ n → length bytes ≤ m → ahead n from place bytes ≡ ahead m from place bytes
unfolding ahead
ahead-any zero zero from place bytes le le' = refl
ahead-any zero (suc m) from place [] le le' = refl
ahead-any (suc n) zero from place [] le le' = refl
ahead-any (suc n) (suc m) from place [] le le' = refl
ahead-any zero (suc m) from place (b ∷ bs) le le' = absurd (omega arith)
ahead-any (suc n) zero from place (b ∷ bs) le le' = absurd (omega arith)
ahead-any (suc n) (suc m) from place (b ∷ bs) le le' =
    with_same (piece_taken place (piece_at (b ∷ bs))) (token_in from place (piece_at (b ∷ bs))) place _ _
    (λ k is. let part = (piece_parts from place b bs).0 k is in
    ahead-any n m (from + k) (place_after place (take k (b ∷ bs))) (drop k (b ∷ bs)) (omega (arith, length-drop k (b ∷ bs), part.0, part.1)) (omega (arith, length-drop k (b ∷ bs), part.0, part.1)))

-- ---- one piece of a text

-- what is ahead of a piece
pub ahead_step : (text : List ℕ) (from : ℕ) (place : Place) (b : ℕ) (bs : List ℕ) → drop from text ≡ b ∷ bs
    → ahead_of text from place
    ≡ with_piece (piece_taken place (piece_at (b ∷ bs))) (token_in from place (piece_at (b ∷ bs))) place (λ k. ahead_of text (from + k) (place_after place (take k (b ∷ bs))))
unfolding ahead
ahead_step text from place b bs e =
    ap (λ z. ahead (length z) from place z) e
    ∙ with_same (piece_taken place (piece_at (b ∷ bs))) (token_in from place (piece_at (b ∷ bs))) place _ _ (λ k is. one k ((piece_parts from place b bs).0 k is).0)
  where
    one : (k : ℕ) → 0 < k → ahead (length bs) (from + k) (place_after place (take k (b ∷ bs))) (drop k (b ∷ bs)) ≡ ahead_of text (from + k) (place_after place (take k (b ∷ bs)))
    one k some =
        let left : drop k (b ∷ bs) ≡ drop (from + k) text = ap (drop k) (sym e) ∙ drop-drop k from text in
        ahead-any (length bs) (length (drop k (b ∷ bs))) (from + k) (place_after place (take k (b ∷ bs))) (drop k (b ∷ bs)) (omega (arith, length-drop k (b ∷ bs))) (omega arith)
        ∙ ap (λ z. ahead (length z) (from + k) (place_after place (take k (b ∷ bs))) z) left

gap_step : (text : List ℕ) (from k : ℕ) (place : Place) (b : ℕ) (bs : List ℕ) → drop from text ≡ b ∷ bs → piece_at (b ∷ bs) ≡ piece.Gap k
    → ahead_of text from place ≡ ahead_of text (from + k) (behind_piece place b k)
gap_step text from k place b bs e is =
    let there : place_after place (take k (b ∷ bs)) ≡ behind_piece place b k = piece_placed place b bs k (ap (piece_taken place) is) in
    ahead_step text from place b bs e
    ∙ ap (λ p. with_piece (piece_taken place p) (token_in from place p) place (λ k. ahead_of text (from + k) (place_after place (take k (b ∷ bs))))) is
    ∙ ap (λ p. ahead_of text (from + k) p) there

no_feed : (b : ℕ) (bs : List ℕ) (kind : TokenKind) (k : ℕ) → piece_at (b ∷ bs) ≡ piece.Token kind k → (b == 10) ≡ false
unfolding piece_at
no_feed b bs kind k is = by (b == 10) refl
  where
    by : (x : Bool) → (b == 10) ≡ x → (b == 10) ≡ false
    by true e = let never : piece_at (10 ∷ bs) ≡ piece.Token kind k = subst (λ z. piece_at (z ∷ bs) ≡ piece.Token kind k) (eqb-true b 10 e) is in absurd cc
    by false e = e

token_step : (text : List ℕ) (from k : ℕ) (place : Place) (b : ℕ) (bs : List ℕ) (kind : TokenKind) → drop from text ≡ b ∷ bs → piece_at (b ∷ bs) ≡ piece.Token kind k
    → ahead_of text from place ≡ from_next text (next.Token (record { kind = kind; from = from; to = from + k; place = place }))
token_step text from k place b bs kind e is =
    let len : k ≡ from + k - from = omega arith in
    let there : place_after place (take k (b ∷ bs)) ≡ behind_piece place b k = piece_placed place b bs k (ap (piece_taken place) is) in
    let right : behind_piece place b k ≡ behind_token (record { kind = kind; from = from; to = from + k; place = place }) =
    rw (no_feed b bs kind k is) (ap (λ c. let q : Place = record { line = place.line; column = place.column + c } in q) len) in
    ahead_step text from place b bs e
    ∙ ap (λ p. with_piece (piece_taken place p) (token_in from place p) place (λ k. ahead_of text (from + k) (place_after place (take k (b ∷ bs))))) is
    ∙ ap (λ p. let t : Token = record { kind = kind; from = from; to = from + k; place = place } in let a : Ahead = (t ∷ (ahead_of text (from + k) p).0, (ahead_of text (from + k) p).1) in a)
    (there ∙ right)

stray_step : (text : List ℕ) (from : ℕ) (place : Place) (b : ℕ) (bs : List ℕ) → drop from text ≡ b ∷ bs → piece_at (b ∷ bs) ≡ piece.Stray → ahead_of text from place ≡ ([], next.Stray place)
stray_step text from place b bs e is =
    ahead_step text from place b bs e
    ∙ ap (λ p. with_piece (piece_taken place p) (token_in from place p) place (λ k. ahead_of text (from + k) (place_after place (take k (b ∷ bs))))) is

end_step : (text : List ℕ) (from : ℕ) (place : Place) → drop from text ≡ [] → ahead_of text from place ≡ ([], next.End place)
unfolding ahead
end_step text from place e = ap (λ z. ahead (length z) from place z) e

-- ---- what a loop over pieces keeps, where `rest` is left of the text

pub gap_passed : (text rest : List ℕ) (from k : ℕ) (place : Place) → rest ≡ drop from text → 0 < k → k ≤ length rest → piece.Gap k ≡ piece_at rest
    → ahead_of text (from + k) (behind_piece place (slice_index_or rest 0 0) k) ≡ ahead_of text from place
gap_passed text [] from k place left some le is = absurd (omega arith)
gap_passed text (b ∷ bs) from k place left some le is = sym (gap_step text from k place b bs (sym left) (sym is))

pub rest_left : (text rest : List ℕ) (from k n : ℕ) → n ≡ length rest → rest ≡ drop from text → take (n - k) (drop k rest) ≡ drop (from + k) text
rest_left text rest from k n same left =
    ap (λ z. take (z - k) (drop k rest)) same ∙ take_all (length rest - k) (drop k rest) (omega (arith, length-drop k rest)) ∙ ap (drop k) left ∙ drop-drop k from text

pub place_passed : (text rest : List ℕ) (from k b : ℕ) (place : Place) → rest ≡ drop from text → 0 < k → k ≤ length rest → IsPlace text from place → IsPlace text (from + k) (behind_piece place b k)
place_passed text rest from k b place left some le is = by (b == 10) refl
  where
    within : from + k ≤ length text
    within = omega (arith, le, is.0, ap length left, length-drop from text)

    by : (x : Bool) → (b == 10) ≡ x → IsPlace text (from + k) (behind_piece place b k)
    by true e = rw e (within, omega (arith, some, is.1), omega arith)
    by false e = rw e (within, omega (arith, is.1), omega (arith, is.2))

pub token_came : (text rest : List ℕ) (from k : ℕ) (place : Place) (kind : TokenKind) → rest ≡ drop from text → 0 < k → k ≤ length rest → piece.Token kind k ≡ piece_at rest
    → ahead_of text from place ≡ from_next text (next.Token (record { kind = kind; from = from; to = from + k; place = place }))
token_came text [] from k place kind left some le is = absurd (omega arith)
token_came text (b ∷ bs) from k place kind left some le is = token_step text from k place b bs kind (sym left) (sym is)

pub stray_came : (text rest : List ℕ) (from : ℕ) (place : Place) → rest ≡ drop from text → 1 ≤ length rest → piece.Stray ≡ piece_at rest → ahead_of text from place ≡ ([], next.Stray place)
stray_came text [] from place left some is = absurd (omega arith)
stray_came text (b ∷ bs) from place left some is = stray_step text from place b bs (sym left) (sym is)

pub end_came : (text rest : List ℕ) (from : ℕ) (place : Place) → rest ≡ drop from text → length rest < 1 → ahead_of text from place ≡ ([], next.End place)
end_came text [] from place left none = end_step text from place (sym left)
end_came text (b ∷ bs) from place left none = absurd (omega arith)

-- ---- all tokens of a text

told_more : (tokens : List Token) (a : Ahead) → (told a >>= λ ts. Ok (tokens ++ ts)) ≡ told (tokens ++ a.0, a.1)
told_more tokens (ts, next.Token t) = refl
told_more tokens (ts, next.End p) = refl
told_more tokens (ts, next.Stray p) = refl

told_piece : (from : ℕ) (place : Place) (p : Piece) (f : ℕ → Result (List Token) PolicyFault) (g : ℕ → Ahead) → ((k : ℕ) → f k ≡ told (g k))
    → (piece_taken place p >>= λ k. f k >>= λ ts. Ok (token_in from place p ++ ts)) ≡ told (with_piece (piece_taken place p) (token_in from place p) place g)
told_piece from place (piece.Gap k) f g same = rw (same k) (told_more [] (g k))
told_piece from place (piece.Token kind k) f g same = rw (same k) (told_more (token_in from place (piece.Token kind k)) (g k))
told_piece from place piece.Stray f g same = refl

pub tokens_told : (n from : ℕ) (place : Place) (bytes : List ℕ) → tokens_from n from place bytes ≡ told (ahead n from place bytes)
unfolding tokens_from ahead
tokens_told zero from place bytes = refl
tokens_told (suc n) from place [] = refl
tokens_told (suc n) from place (b ∷ bs) =
    told_piece from place (piece_at (b ∷ bs)) _ _ (λ k. tokens_told n (from + k) (place_after place (take k (b ∷ bs))) (drop k (b ∷ bs)))

-- the tokens that were found before, and what is ahead
abbrev pub with_found : List Token → Ahead → Ahead
with_found found a = (found ++ a.0, a.1)

found_all : (found : List Token) (p : Place) (a : Ahead) → with_found found ([], next.End p) ≡ a → told a ≡ Ok found
found_all found p a is = ap told (sym is) ∙ ap Ok (append-nil found)

pub found_stray : (found : List Token) (p : Place) (a : Ahead) → with_found found ([], next.Stray p) ≡ a → told a ≡ Err (fault.Token p)
found_stray found p a is = ap told (sym is)

pub found_end : (text : List ℕ) (found : List Token) (x : Next) (a : Ahead) → ((t : Token) → x ≡ next.Token t → ⊥)
    → ((p : Place) → x ≡ next.Stray p → ⊥) → with_found found (from_next text x) ≡ a → told a ≡ Ok found
found_end text found (next.Token t) a not_token not_stray is = absurd (not_token t refl)
found_end text found (next.End p) a not_token not_stray is = found_all found p a is
found_end text found (next.Stray p) a not_token not_stray is = absurd (not_stray p refl)

-- ---- the place of the end

-- what ends the tokens of these bytes is no token, and the end stands behind all of them
abbrev pub Ends : Place → List ℕ → Ahead → Type 0
Ends place bytes (ts, next.End p) = p ≡ place_after place bytes
Ends place bytes (ts, next.Stray p) = Unit {0}
Ends place bytes (ts, next.Token t) = ⊥

ends_more : (place next_place : Place) (bytes left : List ℕ) (tokens : List Token) (a : Ahead) → place_after next_place left ≡ place_after place bytes
    → Ends next_place left a → Ends place bytes (tokens ++ a.0, a.1)
ends_more place next_place bytes left tokens (ts, next.End p) same ends = ends ∙ same
ends_more place next_place bytes left tokens (ts, next.Stray p) same ends = tt
ends_more place next_place bytes left tokens (ts, next.Token t) same ends = ends

ends_piece : (place : Place) (bytes : List ℕ) (tokens : List Token) (r : Result ℕ PolicyFault) (more : ℕ → Ahead)
    → ((k : ℕ) → r ≡ Ok k → Ends (place_after place (take k bytes)) (drop k bytes) (more k))
    → Ends place bytes (with_piece r tokens place more)
ends_piece place bytes tokens (Err e) more ends = tt
ends_piece place bytes tokens (Ok k) more ends =
    let same : place_after (place_after place (take k bytes)) (drop k bytes) ≡ place_after place bytes =
    sym (place_after-append place (take k bytes) (drop k bytes)) ∙ ap (place_after place) (take-append-drop k bytes) in
    ends_more place (place_after place (take k bytes)) bytes (drop k bytes) tokens (more k) same (ends k refl)

ahead_ends : (n from : ℕ) (place : Place) (bytes : List ℕ) → length bytes ≤ n → Ends place bytes (ahead n from place bytes)
unfolding ahead
ahead_ends zero from place [] le = refl
ahead_ends zero from place (b ∷ bs) le = absurd (omega arith)
ahead_ends (suc n) from place [] le = refl
ahead_ends (suc n) from place (b ∷ bs) le =
    ends_piece place (b ∷ bs) (token_in from place (piece_at (b ∷ bs))) (piece_taken place (piece_at (b ∷ bs))) _
    (λ k is. let part = (piece_parts from place b bs).0 k is in ahead_ends n (from + k) (place_after place (take k (b ∷ bs))) (drop k (b ∷ bs)) (omega (arith, length-drop k (b ∷ bs), part.0, part.1)))

ends_told : (place : Place) (bytes : List ℕ) (a : Ahead) (ts : List Token) → Ends place bytes a → told a ≡ Ok ts → a ≡ (ts, next.End (place_after place bytes))
ends_told place bytes (xs, next.End p) ts ends is = let same : xs ≡ ts = cc in rw (same, ends) refl
ends_told place bytes (xs, next.Stray p) ts ends is = absurd cc
ends_told place bytes (xs, next.Token t) ts ends is = absurd ends

-- the tokens of a text are ahead of its beginning, and then its end
pub tokens_ahead : (text : List ℕ) (ts : List Token) → tokens_from (length text) 0 first_place text ≡ Ok ts → ahead_of text 0 first_place ≡ (ts, next.End (place_of text (length text)))
tokens_ahead text ts is =
    ends_told first_place text (ahead_of text 0 first_place) ts (ahead_ends (length text) 0 first_place text (omega arith)) (sym (tokens_told (length text) 0 first_place text) ∙ is)
    ∙ ap (λ z. let a : Ahead = (ts, next.End (place_after first_place z)) in a) (sym (take_all (length text) text (omega arith)))
