-- Prefixes and patterns.
use Rattle.std.specs.Prelude.{ℕ, Bool, true, false, ◌&&◌, nat_le, List, [], ◌∷◌, ◌++◌, Option, Some, None, Result, Ok, Err}
use Rattle.std.specs.List.{flat_map}
use Rattle.net_base.specs.declared.place.Place.{Place}
use Rattle.net_base.specs.declared.prefix_text.PrefixFault.{PrefixFault}
use Rattle.net_base.specs.Prefixes.{PlainPrefix, PlainPattern, only}
use Rattle.net_base.specs.PrefixText.{prefix_spelled, length_number}
use Rattle.policy_grammar.specs.declared.lexeme.Lexeme.{Lexeme}
use Rattle.policy_grammar.specs.Raw.{RawPattern}
use Rattle.policy_grammar.specs.Raw.RawPattern.{All, Only, UpTo}
use Rattle.policy_rules.specs.Checks.{text}
use Rattle.policy_law.specs.Trees.{Written, define, originate, state}

abbrev pub all_prefixes : PlainPrefix
all_prefixes = record { bits = 0; len = 0 }

abbrev pub prefix_in : Result PlainPrefix PrefixFault → PlainPrefix
prefix_in (Ok p) = p
prefix_in (Err e) = all_prefixes

-- the prefix that a figure spells
abbrev pub prefix_of : List ℕ → Lexeme → PlainPrefix
prefix_of bytes figure = prefix_in (prefix_spelled (text bytes figure))

abbrev pub length_in : Option ℕ → ℕ
length_in (Some n) = n
length_in None = 32

-- the length that a figure spells
abbrev pub length_of : List ℕ → Lexeme → ℕ
length_of bytes figure = length_in (length_number (text bytes figure))

-- the pattern of prefixes: `true` is all of them
abbrev pub pattern_of : List ℕ → RawPattern → PlainPattern
pattern_of bytes All = record { base = all_prefixes; upto = 32 }
pattern_of bytes (Only figure) = only (prefix_of bytes figure)
pattern_of bytes (UpTo figure upto) = record { base = prefix_of bytes figure; upto = length_of bytes upto }

-- ---- each figure is a prefix or a length

abbrev pub if_err : Place → Result PlainPrefix PrefixFault → List Place
if_err p (Ok x) = []
if_err p (Err e) = p ∷ []

-- the place of a figure that spells no prefix
abbrev pub no_prefix : List ℕ → Lexeme → List Place
no_prefix bytes figure = if_err figure.place (prefix_spelled (text bytes figure))

abbrev pub unless_true : Place → Bool → List Place
unless_true p true = []
unless_true p false = p ∷ []

abbrev pub unless_within : Place → ℕ → Option ℕ → List Place
unless_within p least (Some n) = unless_true p (nat_le least n && nat_le n 32)
unless_within p least None = p ∷ []

-- the place of a figure that spells no length from that of a prefix to 32
abbrev pub no_length : List ℕ → PlainPrefix → Lexeme → List Place
no_length bytes base figure = unless_within figure.place base.len (length_number (text bytes figure))

abbrev pub wrong_in_pattern : List ℕ → RawPattern → List Place
wrong_in_pattern bytes All = []
wrong_in_pattern bytes (Only figure) = no_prefix bytes figure
wrong_in_pattern bytes (UpTo figure upto) = no_prefix bytes figure ++ no_length bytes (prefix_of bytes figure) upto

-- each wrong figure of an item
abbrev pub wrong_figures : List ℕ → Written → List Place
wrong_figures bytes (define group members) = []
wrong_figures bytes (originate prefix names) = no_prefix bytes prefix
wrong_figures bytes (state patterns e from) = flat_map (wrong_in_pattern bytes) patterns
