-- The numbers of the faults, their words and their values.
use Rattle.std.specs.Prelude.{ℕ, List, [], ◌++◌, codes}
use Rattle.std.specs.Fmt.{decimal}
use Rattle.text_parts.specs.Texts.{word_text, at_place}
use Rattle.text_parts.specs.Telling.{Telling}
use Rattle.policy_tokens.specs.Kinds.{kind_word}
use Rattle.policy_tokens.specs.declared.fault.PolicyFault.{PolicyFault}
use Rattle.policy_tokens.specs.declared.fault.PolicyFault.TheVariants.{NotText, Token, Deep, Syntax, Unknown, Twice, PrefixBad, RankUnder, OriginPeer, OriginTwice, TooMany, NoMemory}

-- the number under which a fault is printed: of several broken rules the one with the least number is told
abbrev pub number_of : PolicyFault → ℕ
number_of NotText = 1
number_of (Token p) = 2
number_of (Deep p) = 3
number_of (Syntax p) = 4
number_of (Unknown p) = 5
number_of (Twice p) = 6
number_of (PrefixBad p) = 7
number_of (RankUnder p) = 8
number_of (OriginPeer p) = 9
number_of (OriginTwice p) = 10
number_of (TooMany k n) = 11
number_of NoMemory = 0

-- the word of a fault
abbrev pub word_of : PolicyFault → List ℕ
word_of NotText = codes "not-text"
word_of (Token p) = codes "token"
word_of (Deep p) = codes "deep"
word_of (Syntax p) = codes "syntax"
word_of (Unknown p) = codes "unknown"
word_of (Twice p) = codes "twice"
word_of (PrefixBad p) = codes "prefix-bad"
word_of (RankUnder p) = codes "rank-under"
word_of (OriginPeer p) = codes "origin-peer"
word_of (OriginTwice p) = codes "origin-twice"
word_of (TooMany k n) = codes "too-many"
word_of NoMemory = codes "no-memory"

-- its values, each after a space
abbrev pub values_of : PolicyFault → List ℕ
values_of NotText = []
values_of (Token p) = at_place p
values_of (Deep p) = at_place p
values_of (Syntax p) = at_place p
values_of (Unknown p) = at_place p
values_of (Twice p) = at_place p
values_of (PrefixBad p) = at_place p
values_of (RankUnder p) = at_place p
values_of (OriginPeer p) = at_place p
values_of (OriginTwice p) = at_place p
values_of (TooMany k n) = word_text (kind_word k) ++ word_text (decimal n)
values_of NoMemory = []

-- how each fault is told, and which one is want of memory
abbrev pub told : Telling PolicyFault
told = record { number_of = number_of; word_of = word_of; values_of = values_of; no_memory = NoMemory }
