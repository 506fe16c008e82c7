-- What tokens stand for.
use Rattle.std.specs.Prelude.{ℕ, ◌+◌, List, option_map}
use Rattle.std.specs.Option.{unwrap_or}
use Rattle.policy_words.specs.declared.word.SetCall.{SetCall}
use Rattle.policy_words.specs.declared.word.SetCall.TheVariants.{Avoid, Through, NoTransit, Start, End, Exit, Enter}
use Rattle.policy_words.specs.declared.word.CallWord.{CallWord}
use Rattle.policy_words.specs.declared.word.CallWord.TheVariants.{Any, Drop, Internal, Link, Path, Of}
use Rattle.policy_words.specs.declared.word.Word.{Word}
use Rattle.policy_words.specs.declared.word.Word.TheVariants as word
use Rattle.policy_words.specs.Words.{word_named}
use Rattle.policy_tokens.specs.declared.token.TokenKind.{TokenKind}
use Rattle.policy_tokens.specs.declared.token.TokenKind.TheVariants as kind
use Rattle.policy_grammar.specs.declared.symbol.Symbol.{Symbol}
use Rattle.policy_grammar.specs.declared.symbol.Symbol.TheVariants.{Define, Originate, At, From, True, Le, Or, And, Not, Call, Name, Figure, Arrow, Above, Equals}
use Rattle.policy_grammar.specs.declared.symbol.Symbol.TheVariants.{BraceOpen, BraceClose, RoundOpen, RoundClose, Comma, Semicolon, EndOfText}

abbrev pub set_number : SetCall → ℕ
set_number Avoid = 0
set_number Through = 1
set_number NoTransit = 2
set_number Start = 3
set_number End = 4
set_number Exit = 5
set_number Enter = 6

abbrev pub call_number : CallWord → ℕ
call_number Any = 0
call_number Drop = 1
call_number Internal = 2
call_number Link = 3
call_number Path = 4
call_number (Of c) = 5 + set_number c

-- each symbol has a number of its own, and the end of the text the greatest
abbrev pub number_of : Symbol → ℕ
number_of Define = 0
number_of Originate = 1
number_of At = 2
number_of From = 3
number_of True = 4
number_of Le = 5
number_of Or = 6
number_of And = 7
number_of Not = 8
number_of Name = 9
number_of Figure = 10
number_of Arrow = 11
number_of Above = 12
number_of Equals = 13
number_of BraceOpen = 14
number_of BraceClose = 15
number_of RoundOpen = 16
number_of RoundClose = 17
number_of Comma = 18
number_of Semicolon = 19
number_of (Call w) = 20 + call_number w
number_of EndOfText = 255

-- what a word of the language stands for
abbrev pub symbol_of_word : Word → Symbol
symbol_of_word word.Define = Define
symbol_of_word word.Originate = Originate
symbol_of_word word.At = At
symbol_of_word word.From = From
symbol_of_word word.True = True
symbol_of_word word.Le = Le
symbol_of_word word.Or = Or
symbol_of_word word.And = And
symbol_of_word word.Not = Not
symbol_of_word (word.Call w) = Call w

-- a word of the language stands for itself, and any other for a name
unfoldable pub word_symbol : List ℕ → Symbol
word_symbol bs = unwrap_or (option_map symbol_of_word (word_named bs)) Name

-- what a token of this kind and these bytes stands for
abbrev pub symbol_of : TokenKind → List ℕ → Symbol
symbol_of kind.Word bs = word_symbol bs
symbol_of kind.Figure bs = Figure
symbol_of kind.Arrow bs = Arrow
symbol_of kind.Above bs = Above
symbol_of kind.Equals bs = Equals
symbol_of kind.BraceOpen bs = BraceOpen
symbol_of kind.BraceClose bs = BraceClose
symbol_of kind.RoundOpen bs = RoundOpen
symbol_of kind.RoundClose bs = RoundClose
symbol_of kind.Comma bs = Comma
symbol_of kind.Semicolon bs = Semicolon
