-- One token of a text after another, from a place within it.
use Rattle.std.specs.Prelude.{ℕ, zero, suc, ◌+◌, ◌-◌, ◌==◌, ◌<◌, ◌≤◌, List, [], ◌∷◌, ◌++◌, take, drop, length, Result, Ok, Err, if◌then◌else◌}
use Rattle.net_base.specs.declared.place.Place.{Place}
use Rattle.policy_tokens.specs.declared.fault.PolicyFault.{PolicyFault}
use Rattle.policy_tokens.specs.declared.fault.PolicyFault.TheVariants as fault
use Rattle.policy_tokens.specs.declared.token.Token.{Token}
use Rattle.policy_tokens.specs.declared.next.Next.{Next}
use Rattle.policy_tokens.specs.declared.next.Next.TheVariants as next
use Rattle.policy_tokens.specs.Places.{place_after}
use Rattle.policy_tokens.specs.Tokens.{piece_at, piece_taken, token_in}

-- the place behind a piece of so many bytes that begins with this one: a line feed is a piece by itself
abbrev pub behind_piece : Place → ℕ → ℕ → Place
behind_piece p b k = if b == 10 then record { line = p.line + 1; column = 1 } else record { line = p.line; column = p.column + k }

-- the place behind a token
abbrev pub behind_token : Token → Place
behind_token t = record { line = t.place.line; column = t.place.column + (t.to - t.from) }

-- Tokens, and what ends them: the end of the text, or what begins no token.
abbrev pub Ahead : Type 0
Ahead = List Token × Next

-- what is ahead of a piece, which has its bytes or may not stand there
abbrev pub with_piece : Result ℕ PolicyFault → List Token → Place → (ℕ → Ahead) → Ahead
with_piece (Ok k) tokens place more = (tokens ++ (more k).0, (more k).1)
with_piece (Err e) tokens place more = ([], next.Stray place)

-- The tokens of a text before which so many bytes stand, and which begins at this place, up to what ends them. The
-- first number is at least that of its bytes: it only counts down.
unfoldable pub ahead : ℕ → ℕ → Place → List ℕ → Ahead
ahead zero from place bytes = ([], next.End place)
ahead (suc n) from place [] = ([], next.End place)
ahead (suc n) from place (b ∷ bs) =
    with_piece (piece_taken place (piece_at (b ∷ bs))) (token_in from place (piece_at (b ∷ bs))) place
    (λ k. ahead n (from + k) (place_after place (take k (b ∷ bs))) (drop k (b ∷ bs)))

-- the same of a text from one byte on, which has this place
abbrev pub ahead_of : List ℕ → ℕ → Place → Ahead
ahead_of text from place = ahead (length (drop from text)) from place (drop from text)

-- a token with what is ahead of it, or the end
abbrev pub from_next : List ℕ → Next → Ahead
from_next text (next.Token t) = (t ∷ (ahead_of text t.to (behind_token t)).0, (ahead_of text t.to (behind_token t)).1)
from_next text (next.End p) = ([], next.End p)
from_next text (next.Stray p) = ([], next.Stray p)

-- a byte of the text, or its end: it has no more lines before it and no more columns than bytes
abbrev pub IsPlace : List ℕ → ℕ → Place → Type 0
IsPlace text from place = (from ≤ length text) × (place.line ≤ from + 1) × (place.column ≤ from + 1)

-- a token that stands in the text
abbrev pub IsToken : List ℕ → Next → Type 0
IsToken text (next.Token t) = IsPlace text t.from t.place × (t.from < t.to) × (t.to ≤ length text)
IsToken text (next.End p) = Unit {0}
IsToken text (next.Stray p) = Unit {0}

-- the tokens, or the fault of what begins none
abbrev pub told : Ahead → Result (List Token) PolicyFault
told (ts, next.Stray p) = Err (fault.Token p)
told (ts, next.End p) = Ok ts
told (ts, next.Token t) = Ok ts
