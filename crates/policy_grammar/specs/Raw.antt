-- The items of a policy as the text has them, with the places of their tokens.
use Rattle.std.specs.Prelude.{List, Option}
use Rattle.net_base.specs.declared.place.Place.{Place}
use Rattle.policy_words.specs.declared.word.CallWord.{CallWord}
use Rattle.policy_grammar.specs.declared.lexeme.Lexeme.{Lexeme}

-- a set that a call or a `from` names: all locations, or those of some names and groups
pub data Arg : Type 0 where
  Any : Arg
  Names : List Lexeme → Arg

-- a call: its word, its sets, and the place of the first `>>` between them, if there is one
pub record RawCall : Type 0 where
  pub word : CallWord
  pub args : List Arg
  pub above : Option Place

-- A part of a ranked expression. The parts stand in postfix order: an operator follows its sides. A `>>` has its place.
pub data Step : Type 0 where
  Call : RawCall → Step
  Above : Place → Step
  Or : Step
  And : Step
  Not : Step

-- all prefixes, one, or those inside one up to a length
pub data RawPattern : Type 0 where
  All : RawPattern
  Only : Lexeme → RawPattern
  UpTo : Lexeme → Lexeme → RawPattern

pub record RawStatement : Type 0 where
  pub patterns : List RawPattern
  pub ranked : List Step
  pub from : Arg

-- a group with its members, a prefix with the names of its origins, or a statement
pub data Item : Type 0 where
  Define : Lexeme → List Lexeme → Item
  Originate : Lexeme → List Lexeme → Item
  State : RawStatement → Item
