-- Lists of names.
use Rattle.std.specs.Prelude.{List, [], ◌∷◌, ◌++◌, length, Ok}
use Rattle.net_base.specs.Steps.{◌>>=◌}
use Rattle.policy_grammar.specs.declared.lexeme.Lexeme.{Lexeme}
use Rattle.policy_grammar.specs.declared.symbol.Symbol.TheVariants.{Name, Comma, BraceOpen, BraceClose}
use Rattle.policy_grammar.specs.Reading.{Read, first_of, after, chain}

abbrev pub name_link : Lexeme → List Lexeme → List Lexeme → Read (List Lexeme)
name_link joint names ls = do
  x ← first_of Name ls
  Ok (names ++ x.0 ∷ [], x.1)

-- NAME { "," NAME }
unfoldable pub names_at : List Lexeme → Read (List Lexeme)
names_at ls = do
  x ← first_of Name ls
  chain Comma name_link (length x.1) (x.0 ∷ []) x.1

-- "{" NAME { "," NAME } "}"
unfoldable pub braced_at : List Lexeme → Read (List Lexeme)
braced_at ls = do
  inside ← after BraceOpen ls
  names ← names_at inside
  rest ← after BraceClose names.1
  Ok (names.0, rest)
