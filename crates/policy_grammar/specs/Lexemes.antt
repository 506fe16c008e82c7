-- Tokens with what they stand for.
use Rattle.std.specs.Prelude.{ℕ, ◌-◌, ◌&&◌, nat_le, List, [], ◌∷◌, ◌++◌, map, take, drop, length, if◌then◌else◌}
use Rattle.net_base.specs.declared.place.Place.{Place}
use Rattle.policy_tokens.specs.declared.token.Token.{Token}
use Rattle.policy_grammar.specs.declared.lexeme.Lexeme.{Lexeme}
use Rattle.policy_grammar.specs.declared.symbol.Symbol.TheVariants.{EndOfText}
use Rattle.policy_grammar.specs.Symbols.{symbol_of}

-- the bytes of a text from one place on, before another
abbrev pub slice_of : List ℕ → ℕ → ℕ → List ℕ
slice_of bytes from to = if nat_le from to && nat_le to (length bytes) then take (to - from) (drop from bytes) else []

abbrev pub lexeme_of : List ℕ → Token → Lexeme
lexeme_of bytes t = record { symbol = symbol_of t.kind (slice_of bytes t.from t.to); from = t.from; to = t.to; place = t.place }

-- the end of the text
abbrev pub end_of : Place → Lexeme
end_of place = record { symbol = EndOfText; from = 0; to = 0; place = place }

-- the lexemes of a text, the last one for its end
abbrev pub lexemes_of : List ℕ → List Token → Place → List Lexeme
lexemes_of bytes tokens place = map (lexeme_of bytes) tokens ++ end_of place ∷ []
