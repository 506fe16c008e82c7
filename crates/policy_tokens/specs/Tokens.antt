-- The tokens of a text.
use Rattle.std.specs.Prelude.{ℕ, zero, suc, ◌<◌, ◌≤◌, ◌+◌, ◌==◌, ◌||◌, not, nat_le, Bool, List, [], ◌∷◌, ◌++◌, take, drop, length, Option, Some, None, Result, Ok, Err, if◌then◌else◌}
use Rattle.std.specs.List.{prefix_len}
use Rattle.std.specs.Str.{is_utf8}
use Rattle.net_base.specs.declared.place.Place.{Place}
use Rattle.net_base.specs.NameRule.{is_letter, is_name_byte}
use Rattle.net_base.specs.Addresses.{is_figure}
use Rattle.net_base.specs.Steps.{◌>>=◌, unless}
use Rattle.policy_tokens.specs.declared.fault.PolicyFault.{PolicyFault}
use Rattle.policy_tokens.specs.declared.fault.PolicyFault.TheVariants as fault
use Rattle.policy_tokens.specs.declared.token.Token.{Token}
use Rattle.policy_tokens.specs.declared.token.TokenKind.{TokenKind}
use Rattle.policy_tokens.specs.declared.token.TokenKind.TheVariants.{Word, Figure, Arrow, Above, Equals, BraceOpen, BraceClose, RoundOpen, RoundClose, Comma, Semicolon}
use Rattle.policy_tokens.specs.declared.piece.Piece.{Piece}
use Rattle.policy_tokens.specs.declared.piece.Piece.TheVariants as piece
use Rattle.policy_tokens.specs.Places.{place_after, first_place}

-- space, tab, carriage return and line feed
abbrev pub is_blank : ℕ → Bool
is_blank b = (b == 32) || (b == 9) || (b == 13) || (b == 10)

-- what doesn't end a line
abbrev pub in_line : ℕ → Bool
in_line b = not (b == 10)

-- a digit, `.` or `/`
abbrev pub is_figure_byte : ℕ → Bool
is_figure_byte b = is_figure b || (b == 46) || (b == 47)

-- `=>` and `>>`
abbrev pub two_signs : ℕ → ℕ → Option TokenKind
two_signs a b = if b == 62 then (if a == 61 then Some Arrow else (if a == 62 then Some Above else None)) else None

-- `=`, `{`, `}`, `(`, `)`, `,` and `;`
abbrev pub one_sign : ℕ → Option TokenKind
one_sign a =
    if a == 61 then Some Equals
    else (if a == 123 then Some BraceOpen
    else (if a == 125 then Some BraceClose
    else (if a == 40 then Some RoundOpen
    else (if a == 41 then Some RoundClose
    else (if a == 44 then Some Comma
    else (if a == 59 then Some Semicolon
    else None))))))

abbrev signed : ℕ → Option TokenKind → Piece → Piece
signed n (Some kind) other = piece.Token kind n
signed n None other = other

-- a sign, the longer one where it fits
abbrev pub sign_at : ℕ → List ℕ → Piece
sign_at a [] = signed 1 (one_sign a) piece.Stray
sign_at a (b ∷ bs) = signed 2 (two_signs a b) (signed 1 (one_sign a) piece.Stray)

-- a word of so many bytes
abbrev pub word_piece : ℕ → Piece
word_piece n = if nat_le n 32 then piece.Token Word n else piece.Stray

-- What stands at the front of a text: a blank, a comment from `#` to the end of its line, a word, a figure or a sign.
unfoldable pub piece_at : List ℕ → Piece
piece_at [] = piece.Stray
piece_at (b ∷ bs) =
    if is_blank b then piece.Gap 1
    else (if b == 35 then piece.Gap (1 + prefix_len in_line bs)
    else (if is_letter b then word_piece (1 + prefix_len is_name_byte bs)
    else (if is_figure b then piece.Token Figure (1 + prefix_len is_figure_byte bs)
    else sign_at b bs)))

-- a piece has a byte at least, and no more than there are
abbrev pub IsWithin : Piece → ℕ → Type 0
IsWithin (piece.Gap k) n = (0 < k) × (k ≤ n)
IsWithin (piece.Token kind k) n = (0 < k) × (k ≤ n)
IsWithin piece.Stray n = Unit {0}

-- how many bytes the piece at this place has
abbrev pub piece_taken : Place → Piece → Result ℕ PolicyFault
piece_taken place (piece.Gap k) = Ok k
piece_taken place (piece.Token kind k) = Ok k
piece_taken place piece.Stray = Err (fault.Token place)

-- the piece as a token, if it is one
abbrev pub token_in : ℕ → Place → Piece → List Token
token_in from place (piece.Token kind k) = record { kind = kind; from = from; to = from + k; place = place } ∷ []
token_in from place _ = []

-- The tokens of a text before which so many bytes stand, and which begins at this place. The first number is at
-- least that of its bytes: it only counts down.
unfoldable pub tokens_from : ℕ → ℕ → Place → List ℕ → Result (List Token) PolicyFault
tokens_from zero from place bytes = Ok []
tokens_from (suc n) from place [] = Ok []
tokens_from (suc n) from place (b ∷ bs) = do
  k ← piece_taken place (piece_at (b ∷ bs))
  ts ← tokens_from n (from + k) (place_after place (take k (b ∷ bs))) (drop k (b ∷ bs))
  Ok (token_in from place (piece_at (b ∷ bs)) ++ ts)

-- the tokens of a whole text
unfoldable pub tokens_of : List ℕ → Result (List Token) PolicyFault
tokens_of bytes = do
  _ ← unless fault.NotText (is_utf8 bytes)
  tokens_from (length bytes) 0 first_place bytes
