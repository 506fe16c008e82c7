-- The lexemes that are left of a text, from one on.
use Rattle.std.specs.Prelude.{ℕ, ◌+◌, ◌-◌, ◌==◌, ◌<◌, ◌≤◌, List, [], ◌∷◌, length, if◌then◌else◌}
use Rattle.net_base.specs.declared.place.Place.{Place}
use Rattle.policy_tokens.specs.declared.next.Next.{Next}
use Rattle.policy_tokens.specs.declared.next.Next.TheVariants as next
use Rattle.policy_tokens.specs.Ahead.{Ahead, ahead_of, IsPlace}
use Rattle.policy_grammar.specs.declared.lexeme.Lexeme.{Lexeme}
use Rattle.policy_grammar.specs.declared.symbol.Symbol.TheVariants.{EndOfText}
use Rattle.policy_grammar.specs.Symbols.{number_of}
use Rattle.policy_grammar.specs.Lexemes.{lexemes_of}

-- where it stands
abbrev pub place_next : Next → Place
place_next (next.Token t) = t.place
place_next (next.End p) = p
place_next (next.Stray p) = p

-- the lexemes of the tokens ahead; what begins no token counts as the end of the text
abbrev pub lexemes_ahead : List ℕ → Ahead → List Lexeme
lexemes_ahead text a = lexemes_of text a.0 (place_next a.1)

abbrev pub place_behind : Lexeme → Place
place_behind l = record { line = l.place.line; column = l.place.column + (l.to - l.from) }

-- the lexemes behind one: none behind the end of the text
unfoldable pub behind : List ℕ → Lexeme → List Lexeme
behind text l = if number_of l.symbol == number_of EndOfText then [] else lexemes_ahead text (ahead_of text l.to (place_behind l))

-- the lexemes of a text from one on
abbrev pub left : List ℕ → Lexeme → List Lexeme
left text l = l ∷ behind text l

-- the lexeme is the end of the text, or its bytes stand within the text
unfoldable pub StandsIn : List ℕ → Lexeme → Type 0
StandsIn text l = (length text < 4294967295) × (number_of l.symbol < number_of EndOfText → IsPlace text l.from l.place × (l.from ≤ l.to) × (l.to ≤ length text))
