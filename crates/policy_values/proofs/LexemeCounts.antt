-- How many lexemes can be left of a text.
use Rattle.std.proofs.Common.{ℕ, zero, suc, ◌+◌, ◌≤◌, ◌<◌, Bool, true, false, List, [], ◌∷◌, length, take, drop, Result, Ok, Err, if◌then◌else◌, length-drop, length-append, arith}
use Rattle.std.specs.Prelude.{◌==◌, map}
use Rattle.std.proofs.lemmas.List.{length-map}
use Rattle.net_base.specs.declared.place.Place.{Place}
use Rattle.policy_tokens.specs.declared.fault.PolicyFault.{PolicyFault}
use Rattle.policy_tokens.specs.declared.token.Token.{Token}
use Rattle.policy_tokens.specs.declared.piece.Piece.{Piece}
use Rattle.policy_tokens.specs.declared.piece.Piece.TheVariants as piece
use Rattle.policy_tokens.specs.Places.{place_after}
use Rattle.policy_tokens.specs.Tokens.{piece_at, piece_taken, token_in}
use Rattle.policy_tokens.specs.Ahead.{Ahead, with_piece, ahead, ahead_of}
use Rattle.policy_grammar.specs.declared.lexeme.Lexeme.{Lexeme}
use Rattle.policy_grammar.specs.declared.symbol.Symbol.TheVariants.{EndOfText}
use Rattle.policy_grammar.specs.Symbols.{number_of}
use Rattle.policy_grammar.specs.Lexemes.{lexeme_of, end_of}
use Rattle.policy_grammar.specs.Left.{place_next, lexemes_ahead, place_behind, behind, left, StandsIn}

one_at_most : (from : ℕ) (place : Place) (p : Piece) → length (token_in from place p) ≤ 1
one_at_most from place (piece.Gap k) = omega arith
one_at_most from place (piece.Token kind k) = omega arith
one_at_most from place piece.Stray = omega arith

with_few : (n : ℕ) (r : Result ℕ PolicyFault) (tokens : List Token) (place : Place) (more : ℕ → Ahead) → length tokens ≤ 1
    → ((k : ℕ) → length (more k).0 ≤ n) → length (with_piece r tokens place more).0 ≤ suc n
with_few n (Ok k) tokens place more one few = omega (arith, length-append tokens (more k).0, one, few k)
with_few n (Err e) tokens place more one few = omega arith

-- each token has a byte at least
ahead_few : (n from : ℕ) (place : Place) (bytes : List ℕ) → length (ahead n from place bytes).0 ≤ n
unfolding ahead
ahead_few zero from place bytes = omega arith
ahead_few (suc n) from place [] = omega arith
ahead_few (suc n) from place (b ∷ bs) =
    with_few n (piece_taken place (piece_at (b ∷ bs))) (token_in from place (piece_at (b ∷ bs))) place _ (one_at_most from place (piece_at (b ∷ bs)))
    (λ k. ahead_few n (from + k) (place_after place (take k (b ∷ bs))) (drop k (b ∷ bs)))

lexemes_few : (text : List ℕ) (from : ℕ) (place : Place) → length (lexemes_ahead text (ahead_of text from place)) ≤ length text + 1
lexemes_few text from place =
    let tokens = (ahead_of text from place).0 in
    let few : length tokens ≤ length (drop from text) = ahead_few (length (drop from text)) from place (drop from text) in
    omega (arith, few, length-drop from text, length-map tokens (lexeme_of text), length-append (map (lexeme_of text) tokens) (end_of (place_next (ahead_of text from place).1) ∷ []))

behind_few : (text : List ℕ) (l : Lexeme) (b : Bool) → length (if b then [] else lexemes_ahead text (ahead_of text l.to (place_behind l))) ≤ length text + 1
behind_few text l true = omega arith
behind_few text l false = lexemes_few text l.to (place_behind l)

-- no more are left than the text has bytes, but the end and one that may stand before the text
pub left_few : (text : List ℕ) (l : Lexeme) → StandsIn text l → length (left text l) < 4294967297
unfolding behind StandsIn
left_few text l stands = omega (arith, behind_few text l (number_of l.symbol == number_of EndOfText), stands.0)
