-- The words of a policy's text: what the grammar sees of it.
use Rattle.std.specs.Prelude.{◌≡◌, ◌==◌, ℕ, nat_lt, Bool, List, [], ◌∷◌, ◌++◌, if◌then◌else◌}
use Rattle.std.specs.List.{flat_map}
use Rattle.net_base.specs.declared.loc.LocSet.{LocSet}
use Rattle.net_base.specs.Network.{PlainNet}
use Rattle.net_base.specs.Prefixes.{PlainPattern}
use Rattle.std.specs.Fmt.{decimal}
use Rattle.text_parts.specs.Texts.{prefix_text}
use Rattle.policy_grammar.specs.declared.lexeme.Lexeme.{Lexeme}
use Rattle.policy_grammar.specs.declared.symbol.Symbol.{Symbol}
use Rattle.policy_grammar.specs.declared.symbol.Symbol.TheVariants as symbol
use Rattle.policy_rules.specs.Checks.{text}
use Rattle.policy_base.specs.declared.call.Call.{Call}
use Rattle.policy_base.specs.declared.call.Call.TheVariants.{Any, Drop, Internal, Link, Path, Of}
use Rattle.policy_words.specs.declared.word.CallWord.TheVariants as word
use Rattle.policy_base.specs.CallWords.{word_of}
use Rattle.policy_base.specs.declared.policy.FromSet.{FromSet}
use Rattle.policy_base.specs.declared.policy.FromSet.TheVariants as from_set
use Rattle.policy_base.specs.declared.policy.Origin.{Origin}
use Rattle.policy_base.specs.Policies.{Ranking, call, calls, prefer, either, both, negated, PlainStatement, PlainPolicy}
use Rattle.policy_text.specs.PolicyText.{names_in, are_all, has_sets, is_everything}

-- a word of the language or a sign, a name, a figure
pub data Word : Type 0 where
  sign : Symbol → Word
  name : List ℕ → Word
  figure : List ℕ → Word

-- a lexeme of a text is a word
abbrev pub IsWord : List ℕ → Lexeme → Word → Type 0
IsWord bytes l (sign s) = l.symbol ≡ s
IsWord bytes l (name n) = (l.symbol ≡ symbol.Name) × (text bytes l ≡ n)
IsWord bytes l (figure n) = (l.symbol ≡ symbol.Figure) × (text bytes l ≡ n)

-- the lexemes of a text are these words, one for one
abbrev pub AreWords : List ℕ → List Lexeme → List Word → Type 0
AreWords bytes [] [] = Unit {0}
AreWords bytes [] (w ∷ ws) = ⊥
AreWords bytes (l ∷ ls) [] = ⊥
AreWords bytes (l ∷ ls) (w ∷ ws) = IsWord bytes l w × AreWords bytes ls ws

abbrev pub next_name : List ℕ → List Word
next_name n = sign symbol.Comma ∷ name n ∷ []

abbrev pub name_words : List (List ℕ) → List Word
name_words [] = []
name_words (n ∷ ns) = name n ∷ flat_map next_name ns

abbrev pub set_words : PlainNet → List (List ℕ) → List Word
set_words net names = if are_all net names then sign (symbol.Call word.Any) ∷ [] else name_words names

abbrev pub braced_words : List (List ℕ) → List Word
braced_words (n ∷ []) = name n ∷ []
braced_words ns = sign symbol.BraceOpen ∷ (name_words ns ++ sign symbol.BraceClose ∷ [])

abbrev pub place_words : PlainNet → List (List ℕ) → List Word
place_words net names = if are_all net names then sign (symbol.Call word.Any) ∷ [] else braced_words names

abbrev pub next_place : PlainNet → LocSet → List Word
next_place net s = sign symbol.Comma ∷ place_words net (names_in net s)

abbrev pub places_words : PlainNet → List LocSet → List Word
places_words net [] = []
places_words net (s ∷ ss) = place_words net (names_in net s) ++ flat_map (next_place net) ss

abbrev pub call_symbol : Call → Symbol
call_symbol c = symbol.Call (word_of c)

abbrev pub sets_words : PlainNet → Call → List Word
sets_words net Any = []
sets_words net Drop = []
sets_words net Internal = []
sets_words net (Of c s) = set_words net (names_in net s)
sets_words net (Link a b) = places_words net (a ∷ b ∷ [])
sets_words net (Path ps) = places_words net ps

abbrev pub call_words : PlainNet → Call → List Word
call_words net c = sign (call_symbol c) ∷ (if has_sets c then sign symbol.RoundOpen ∷ (sets_words net c ++ sign symbol.RoundClose ∷ []) else [])

abbrev pub next_sets : PlainNet → Call → List Word
next_sets net c = sign symbol.Above ∷ sets_words net c

abbrev pub calls_words : PlainNet → List Call → List Word
calls_words net [] = []
calls_words net (c ∷ cs) = sign (call_symbol c) ∷ sign symbol.RoundOpen ∷ (sets_words net c ++ flat_map (next_sets net) cs ++ sign symbol.RoundClose ∷ [])

abbrev pub in_brackets : Bool → List Word → List Word
in_brackets b ws = if b then sign symbol.RoundOpen ∷ (ws ++ sign symbol.RoundClose ∷ []) else ws

abbrev pub ranking_words : PlainNet → ℕ → Ranking → List Word
ranking_words net least (call c) = call_words net c
ranking_words net least (calls cs) = calls_words net cs
ranking_words net least (prefer a b) = in_brackets (nat_lt 1 least) (ranking_words net 1 a ++ sign symbol.Above ∷ [] ++ ranking_words net 2 b)
ranking_words net least (either a b) = in_brackets (nat_lt 2 least) (ranking_words net 2 a ++ sign symbol.Or ∷ [] ++ ranking_words net 3 b)
ranking_words net least (both a b) = in_brackets (nat_lt 3 least) (ranking_words net 3 a ++ sign symbol.And ∷ [] ++ ranking_words net 4 b)
ranking_words net least (negated a) = in_brackets (nat_lt 4 least) (sign symbol.Not ∷ ranking_words net 5 a)

abbrev pub pattern_words : PlainPattern → List Word
pattern_words p = if p.upto == p.base.len then figure (prefix_text p.base) ∷ [] else figure (prefix_text p.base) ∷ sign symbol.Le ∷ figure (decimal p.upto) ∷ []

abbrev pub next_pattern : PlainPattern → List Word
next_pattern p = sign symbol.Or ∷ pattern_words p

abbrev pub patterns_words : List PlainPattern → List Word
patterns_words [] = []
patterns_words (p ∷ []) = if is_everything p then sign symbol.True ∷ [] else pattern_words p
patterns_words (p ∷ ps) = pattern_words p ++ flat_map next_pattern ps

abbrev pub from_words : PlainNet → FromSet → List Word
from_words net from_set.Any = []
from_words net (from_set.Named s) = sign symbol.From ∷ name_words (names_in net s)

abbrev pub statement_words : PlainNet → PlainStatement → List Word
statement_words net s = patterns_words s.patterns ++ sign symbol.Arrow ∷ [] ++ ranking_words net 1 s.ranked ++ from_words net s.from ++ sign symbol.Semicolon ∷ []

abbrev pub origin_words : PlainNet → Origin → List Word
origin_words net o = sign symbol.Originate ∷ figure (prefix_text o.prefix) ∷ sign symbol.At ∷ (name_words (names_in net o.at) ++ sign symbol.Semicolon ∷ [])

-- the words of the whole text
abbrev pub policy_words : PlainNet → PlainPolicy → List Word
policy_words net policy = flat_map (origin_words net) policy.origins ++ flat_map (statement_words net) policy.statements
