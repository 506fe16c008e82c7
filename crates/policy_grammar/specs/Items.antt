-- Items.
use Rattle.std.specs.Prelude.{ℕ, zero, suc, List, [], ◌∷◌, ◌++◌, length, Result, Ok, Err}
use Rattle.policy_tokens.specs.declared.limits.TheConstants.{BRACKETS}
use Rattle.net_base.specs.Steps.{◌>>=◌}
use Rattle.policy_tokens.specs.declared.fault.PolicyFault.{PolicyFault}
use Rattle.policy_grammar.specs.declared.lexeme.Lexeme.{Lexeme}
use Rattle.policy_grammar.specs.declared.symbol.Symbol.TheVariants as symbol
use Rattle.policy_grammar.specs.Raw.{Arg, Arg as arg, Item, RawPattern}
use Rattle.policy_grammar.specs.Raw.Item.{Define, Originate, State}
use Rattle.policy_grammar.specs.Raw.RawPattern.{All, Only, UpTo}
use Rattle.policy_grammar.specs.Reading.{Read, refused, past, first_of, after, either, chain}
use Rattle.policy_grammar.specs.Names.{names_at, braced_at}
use Rattle.policy_grammar.specs.Calls.{set_at}
use Rattle.policy_grammar.specs.Ranked.{ranked_with, inner_at}

abbrev up_to : Lexeme → List Lexeme → Read RawPattern
up_to base ls = do
  upto ← first_of symbol.Figure ls
  Ok (UpTo base upto.0, upto.1)

-- pattern = FIGURE [ "le" FIGURE ]
unfoldable pub pattern_at : List Lexeme → Read RawPattern
pattern_at ls = do
  base ← first_of symbol.Figure ls
  either (past symbol.Le base.1) (λ l rest. up_to base.0 rest) (Ok (Only base.0, base.1))

abbrev pub pattern_link : Lexeme → List RawPattern → List Lexeme → Read (List RawPattern)
pattern_link joint patterns ls = do
  x ← pattern_at ls
  Ok (patterns ++ x.0 ∷ [], x.1)

abbrev pub patterns_at : List Lexeme → Read (List RawPattern)
patterns_at ls = do
  x ← pattern_at ls
  chain symbol.Or pattern_link (length x.1) (x.0 ∷ []) x.1

-- predicate = "true" | pattern { "or" pattern }
unfoldable pub predicate_at : List Lexeme → Read (List RawPattern)
predicate_at ls = either (past symbol.True ls) (λ l rest. Ok (All ∷ [], rest)) (patterns_at ls)

-- [ "from" ( "any" | NAME { "," NAME } ) ]
unfoldable pub from_at : List Lexeme → Read Arg
from_at ls = either (past symbol.From ls) (λ l rest. set_at rest) (Ok (arg.Any, ls))

-- predicate "=>" ranked [ "from" .. ] ";"
unfoldable pub statement_at : List Lexeme → Read Item
statement_at ls = do
  patterns ← predicate_at ls
  behind ← after symbol.Arrow patterns.1
  ranked ← ranked_with (inner_at BRACKETS) [] behind
  from ← from_at ranked.1
  rest ← after symbol.Semicolon from.1
  Ok (State (record { patterns = patterns.0; ranked = ranked.0; from = from.0 }), rest)

-- behind "define": NAME "=" "{" NAME { "," NAME } "}" ";"
unfoldable pub define_at : List Lexeme → Read Item
define_at ls = do
  name ← first_of symbol.Name ls
  group ← after symbol.Equals name.1
  names ← braced_at group
  rest ← after symbol.Semicolon names.1
  Ok (Define name.0 names.0, rest)

-- behind "originate": FIGURE "at" NAME { "," NAME } ";"
unfoldable pub originate_at : List Lexeme → Read Item
originate_at ls = do
  prefix ← first_of symbol.Figure ls
  origins ← after symbol.At prefix.1
  names ← names_at origins
  rest ← after symbol.Semicolon names.1
  Ok (Originate prefix.0 names.0, rest)

-- an item
unfoldable pub item_at : List Lexeme → Read Item
item_at ls =
    either (past symbol.Define ls) (λ l rest. define_at rest)
    (either (past symbol.Originate ls) (λ l rest. originate_at rest) (statement_at ls))

-- Items up to the end of the text, behind those that were read so far. The number is at least that of the
-- lexemes: it only counts down.
unfoldable pub items_from : ℕ → List Item → List Lexeme → Result (List Item) PolicyFault
items_from zero items ls = Err (refused ls)
items_from (suc n) items ls = either (past symbol.EndOfText ls) (λ l rest. Ok items) (item_at ls >>= λ x. items_from n (items ++ x.0 ∷ []) x.1)

-- the items of a whole text
abbrev pub items_of : List Lexeme → Result (List Item) PolicyFault
items_of ls = items_from (length ls) [] ls
