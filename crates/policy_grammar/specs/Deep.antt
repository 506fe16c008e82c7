-- How many brackets are open at once.
use Rattle.std.specs.Prelude.{ℕ, ◌+◌, ◌-◌, nat_le, Bool, false, List, [], ◌∷◌, length, Option, Some, None, Result, Ok, if◌then◌else◌}
use Rattle.policy_tokens.specs.declared.limits.TheConstants.{BRACKETS}
use Rattle.net_base.specs.declared.place.Place.{Place}
use Rattle.net_base.specs.Steps.{◌>>=◌}
use Rattle.policy_tokens.specs.declared.fault.PolicyFault.{PolicyFault}
use Rattle.policy_tokens.specs.declared.token.Token.{Token}
use Rattle.policy_tokens.specs.Places.{place_of}
use Rattle.policy_grammar.specs.Lexemes.{lexemes_of}
use Rattle.policy_grammar.specs.declared.lexeme.Lexeme.{Lexeme}
use Rattle.policy_grammar.specs.declared.symbol.Symbol.{Symbol}
use Rattle.policy_grammar.specs.declared.symbol.Symbol.TheVariants.{RoundOpen, RoundClose}

-- how many brackets are open behind a lexeme before which n are
abbrev pub open_behind : ℕ → Symbol → ℕ
open_behind n RoundOpen = n + 1
open_behind n RoundClose = n - 1
open_behind n _ = n

-- the lexeme opens one more bracket, and 64 are open
abbrev pub is_too_deep : ℕ → Symbol → Bool
is_too_deep n RoundOpen = nat_le BRACKETS n
is_too_deep n _ = false

-- the place of the first bracket that is too deep, where n are open before these lexemes
abbrev pub first_deep : ℕ → List Lexeme → Option Place
first_deep n [] = None
first_deep n (l ∷ ls) = if is_too_deep n l.symbol then Some l.place else first_deep (open_behind n l.symbol) ls

-- the bracket that was too deep before these lexemes, or the first one of them that is
abbrev pub deep_from : Option Place → ℕ → List Lexeme → Option Place
deep_from (Some p) n ls = Some p
deep_from None n ls = first_deep n ls

-- the first bracket of a text that is too deep, by its tokens
abbrev pub deep_found : List ℕ → Result (List Token) PolicyFault → Result (Option Place) PolicyFault
deep_found text read = do
  ts ← read
  Ok (first_deep 0 (lexemes_of text ts (place_of text (length text))))
