-- Texts that are looked through piece by piece, without places.
use Rattle.std.proofs.Common.{◌≡◌, ℕ, ◌+◌, ◌-◌, ◌≤◌, ◌<◌, false, List, ◌∷◌, length, take, drop, None, Ok, refl, subst, ◌∙◌, slice_index_or}
use Rattle.net_base.specs.declared.place.Place.{Place}
use Rattle.policy_tokens.specs.declared.token.Token.{Token}
use Rattle.policy_tokens.specs.declared.token.TokenKind.{TokenKind}
use Rattle.policy_tokens.specs.declared.piece.Piece.TheVariants as piece
use Rattle.policy_tokens.specs.declared.next.Next.TheVariants as next
use Rattle.policy_tokens.specs.Places.{first_place}
use Rattle.policy_tokens.specs.Tokens.{piece_at}
use Rattle.policy_tokens.specs.Ahead.{Ahead, behind_piece, behind_token, ahead_of, from_next}
use Rattle.policy_tokens.proofs.Onward.{gap_passed, rest_left, token_came, end_came}
use Rattle.policy_grammar.specs.declared.lexeme.Lexeme.{Lexeme}
use Rattle.policy_grammar.specs.Symbols.{symbol_of}
use Rattle.policy_grammar.specs.Lexemes.{slice_of, lexeme_of}
use Rattle.policy_grammar.specs.Left.{lexemes_ahead}
use Rattle.policy_grammar.specs.Deep.{is_too_deep, open_behind, first_deep, deep_from}
use Rattle.policy_grammar.proofs.Counting.{Found, counted}

-- what is ahead from some place on, before which n brackets are open, has the deep brackets and the end of the whole text
abbrev Ends : List ℕ → ℕ → Ahead → Type 0
Ends text n a = (deep_from None n (lexemes_ahead text a) ≡ deep_from None 0 (lexemes_ahead text (ahead_of text 0 first_place))) × (a.1 ≡ (ahead_of text 0 first_place).1)

-- so does the rest of the text
abbrev pub IsSofar : List ℕ → ℕ → List ℕ → Type 0
IsSofar text n rest = (from : ℕ) × (place : Place) × (rest ≡ drop from text) × Ends text n (ahead_of text from place)

pub begun : (text : List ℕ) → IsSofar text 0 text
begun text = (0, first_place, refl, (refl, refl))

-- behind a blank or a comment
pub gap_on : (text rest : List ℕ) (n k : ℕ) → 0 < k → k ≤ length rest → piece.Gap k ≡ piece_at rest → IsSofar text n rest → IsSofar text n (take (length rest - k) (drop k rest))
gap_on text rest n k some le is (from, place, left, ends) =
    (from + k, behind_piece place (slice_index_or rest 0 0) k, rest_left text rest from k (length rest) refl left, rw (gap_passed text rest from k place left some le is) ends)

one_less : (n m : ℕ) (l : Lexeme) (ls : List Lexeme) → is_too_deep n l.symbol ≡ false → open_behind n l.symbol ≡ m → first_deep m ls ≡ first_deep n (l ∷ ls)
one_less n m l ls shallow count = rw (shallow, count) refl

ends_on : (text : List ℕ) (n m : ℕ) (t : Token) → is_too_deep n (lexeme_of text t).symbol ≡ false → open_behind n (lexeme_of text t).symbol ≡ m
    → Ends text n (from_next text (next.Token t)) → Ends text m (ahead_of text t.to (behind_token t))
ends_on text n m t shallow count ends =
    (one_less n m (lexeme_of text t) (lexemes_ahead text (ahead_of text t.to (behind_token t))) shallow count ∙ ends.0, ends.1)

-- behind a token
pub token_on : (text rest : List ℕ) (n m k : ℕ) (kind : TokenKind) → 0 < k → k ≤ length rest → piece.Token kind k ≡ piece_at rest
    → ((bytes : List ℕ) → (is_too_deep n (symbol_of kind bytes) ≡ false) × (open_behind n (symbol_of kind bytes) ≡ m)) → IsSofar text n rest → IsSofar text m (take (length rest - k) (drop k rest))
token_on text rest n m k kind some le is counts (from, place, left, ends) =
    let t : Token = record { kind = kind; from = from; to = from + k; place = place } in
    let c = counts (slice_of text from (from + k)) in
    (from + k, behind_token t, rest_left text rest from k (length rest) refl left, ends_on text n m t c.0 c.1 (subst (Ends text n) (token_came text rest from k place kind left some le is) ends))

-- at the end of the text
pub all_fine : (text rest : List ℕ) (n : ℕ) → length rest < 1 → IsSofar text n rest → Found text ≡ Ok None
all_fine text rest n none (from, place, left, ends) =
    let e = end_came text rest from place left none in
    let here = rw e at ends in
    counted text None n (next.End place) (λ t h. absurd cc) (λ p h. absurd cc) here.1 here.0
