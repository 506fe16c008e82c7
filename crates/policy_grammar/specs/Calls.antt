-- Calls.
use Rattle.std.specs.Prelude.{List, [], ◌∷◌, ◌++◌, length, Option, Some, None, option_map, Ok, Err}
use Rattle.net_base.specs.declared.place.Place.{Place}
use Rattle.net_base.specs.Steps.{◌>>=◌}
use Rattle.policy_grammar.specs.declared.lexeme.Lexeme.{Lexeme}
use Rattle.policy_grammar.specs.declared.symbol.Symbol.{Symbol}
use Rattle.policy_grammar.specs.declared.symbol.Symbol.TheVariants as symbol
use Rattle.policy_grammar.specs.Raw.{Arg, Arg as arg, RawCall, Step, Step as step}
use Rattle.policy_words.specs.declared.word.SetCall.{SetCall}
use Rattle.policy_words.specs.declared.word.CallWord.{CallWord}
use Rattle.policy_words.specs.declared.word.CallWord.TheVariants.{Any, Drop, Internal, Link, Path, Of}
use Rattle.policy_grammar.specs.Reading.{Read, refused, past, first_of, after, either, chain}
use Rattle.policy_grammar.specs.Names.{names_at, braced_at}

-- names that were read, as a set
abbrev pub named_with : Read (List Lexeme) → Read Arg
named_with names = names >>= λ x. Ok (arg.Names x.0, x.1)

-- set = "any" | NAME { "," NAME }
unfoldable pub set_at : List Lexeme → Read Arg
set_at ls = either (past (symbol.Call Any) ls) (λ l rest. Ok (arg.Any, rest)) (named_with (names_at ls))

abbrev one_name : List Lexeme → Read Arg
one_name ls = do
  x ← first_of symbol.Name ls
  Ok (arg.Names (x.0 ∷ []), x.1)

-- one = "any" | NAME | "{" NAME { "," NAME } "}"
unfoldable pub one_at : List Lexeme → Read Arg
one_at ls =
    either (past (symbol.Call Any) ls) (λ l rest. Ok (arg.Any, rest))
    (either (past symbol.BraceOpen ls) (λ l rest. braced_at ls >>= λ x. Ok (arg.Names x.0, x.1)) (one_name ls))

abbrev pub set_link : Lexeme → List Arg → List Lexeme → Read (List Arg)
set_link joint sets ls = do
  x ← set_at ls
  Ok (sets ++ x.0 ∷ [], x.1)

abbrev pub one_link : Lexeme → List Arg → List Lexeme → Read (List Arg)
one_link joint sets ls = do
  x ← one_at ls
  Ok (sets ++ x.0 ∷ [], x.1)

-- where the `>>` stands that is the first lexeme, if it is one
abbrev pub above_at : List Lexeme → Option Place
above_at ls = option_map (λ x. x.0.place) (past symbol.Above ls)

-- "(" set { ">>" set } ")"
unfoldable pub sets_call : SetCall → List Lexeme → Read RawCall
sets_call c ls = do
  inside ← after symbol.RoundOpen ls
  x ← set_at inside
  sets ← chain symbol.Above set_link (length x.1) (x.0 ∷ []) x.1
  rest ← after symbol.RoundClose sets.1
  Ok (record { word = Of c; args = sets.0; above = above_at x.1 }, rest)

-- "(" one "," one ")"
unfoldable pub link_call : List Lexeme → Read RawCall
link_call ls = do
  inside ← after symbol.RoundOpen ls
  a ← one_at inside
  second ← after symbol.Comma a.1
  b ← one_at second
  rest ← after symbol.RoundClose b.1
  Ok (record { word = Link; args = a.0 ∷ b.0 ∷ []; above = None }, rest)

-- "(" one "," one { "," one } ")"
unfoldable pub path_call : List Lexeme → Read RawCall
path_call ls = do
  inside ← after symbol.RoundOpen ls
  a ← one_at inside
  second ← after symbol.Comma a.1
  b ← one_at second
  sets ← chain symbol.Comma one_link (length b.1) (a.0 ∷ b.0 ∷ []) b.1
  rest ← after symbol.RoundClose sets.1
  Ok (record { word = Path; args = sets.0; above = None }, rest)

abbrev pub word_of : Symbol → Option CallWord
word_of (symbol.Call word) = Some word
word_of _ = None

-- what stands behind the word of a call
abbrev pub call_behind : CallWord → List Lexeme → Read RawCall
call_behind Any ls = Ok (record { word = Any; args = []; above = None }, ls)
call_behind Drop ls = Ok (record { word = Drop; args = []; above = None }, ls)
call_behind Internal ls = Ok (record { word = Internal; args = []; above = None }, ls)
call_behind Link ls = link_call ls
call_behind Path ls = path_call ls
call_behind (Of c) ls = sets_call c ls

-- a call that was read, as a part of an expression
abbrev pub step_read : Read RawCall → Read Step
step_read call = call >>= λ x. Ok (step.Call x.0, x.1)

abbrev pub call_begins : List Lexeme → Option (CallWord × List Lexeme)
call_begins [] = None
call_begins (l ∷ ls) = option_map (λ word. (word, ls)) (word_of l.symbol)

abbrev call_or_none : List Lexeme → Option (CallWord × List Lexeme) → Read RawCall
call_or_none ls (Some x) = call_behind x.0 x.1
call_or_none ls None = Err (refused ls)

-- a call: its word and what stands behind it
unfoldable pub call_at : List Lexeme → Read RawCall
call_at ls = call_or_none ls (call_begins ls)
