-- Prefixes and patterns.
use Rattle.std.specs.Prelude.{ℕ, ◌&&◌, nat_le, List, Result, Ok, Err, ⊤}
use Rattle.net_base.specs.Prefixes.{PlainPrefix, PlainPattern, only}
use Rattle.net_base.specs.PrefixText.{prefix_spelled, length_number}
use Rattle.net_base.specs.declared.prefix_text.PrefixFault.{PrefixFault}
use Rattle.net_base.specs.Steps.{◌>>=◌, or_fault, unless}
use Rattle.policy_tokens.specs.declared.fault.PolicyFault.{PolicyFault}
use Rattle.policy_tokens.specs.declared.fault.PolicyFault.TheVariants.{PrefixBad}
use Rattle.policy_grammar.specs.declared.lexeme.Lexeme.{Lexeme}
use Rattle.policy_grammar.specs.Raw.{RawPattern, Item}
use Rattle.policy_grammar.specs.Raw.RawPattern.{All, Only, UpTo}
use Rattle.policy_grammar.specs.Raw.Item.{Define, Originate, State}
use Rattle.policy_rules.specs.Checks.{text, each}

abbrev pub or_bad : Lexeme → Result PlainPrefix PrefixFault → Result PlainPrefix PolicyFault
or_bad l (Ok p) = Ok p
or_bad l (Err e) = Err (PrefixBad l.place)

-- the prefix that a figure spells
abbrev pub prefix_at : List ℕ → Lexeme → Result PlainPrefix PolicyFault
prefix_at bytes l = or_bad l (prefix_spelled (text bytes l))

-- the pattern of a base up to the length that a figure spells, which is from the length of the base to 32
abbrev pub upto_at : List ℕ → PlainPrefix → Lexeme → Result PlainPattern PolicyFault
upto_at bytes base l = do
  n ← or_fault (PrefixBad l.place) (length_number (text bytes l))
  _ ← unless (PrefixBad l.place) (nat_le base.len n && nat_le n 32)
  Ok (record { base = base; upto = n })

-- `true` is all prefixes
abbrev pub pattern_at : List ℕ → RawPattern → Result PlainPattern PolicyFault
pattern_at bytes All = Ok (record { base = record { bits = 0; len = 0 }; upto = 32 })
pattern_at bytes (Only l) = do
  p ← prefix_at bytes l
  Ok (only p)
pattern_at bytes (UpTo l m) = do
  p ← prefix_at bytes l
  upto_at bytes p m

abbrev pub pattern_fine : List ℕ → RawPattern → Result ⊤ PolicyFault
pattern_fine bytes p = do
  _ ← pattern_at bytes p
  Ok tt

-- the figures of an item are prefixes and lengths
abbrev pub figures_fine : List ℕ → Item → Result ⊤ PolicyFault
figures_fine bytes (Define name members) = Ok tt
figures_fine bytes (Originate prefix names) = do
  _ ← prefix_at bytes prefix
  Ok tt
figures_fine bytes (State s) = each (pattern_fine bytes) s.patterns
