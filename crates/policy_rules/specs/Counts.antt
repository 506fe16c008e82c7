-- How much a policy may have.
use Rattle.std.specs.Prelude.{ℕ, nat_le, min, sum_by, List, length, Result, Ok, ⊤}
use Rattle.policy_tokens.specs.declared.limits.TheConstants.{CALLS, DEFINITIONS, PLACES}
use Rattle.policy_base.specs.declared.limits.TheConstants.{PATTERNS, PREFIXES, STATEMENTS}
use Rattle.policy_tokens.specs.declared.kind.Kind.{Kind}
use Rattle.policy_tokens.specs.declared.kind.Kind.TheVariants as kind
use Rattle.net_base.specs.Steps.{◌>>=◌, unless}
use Rattle.policy_tokens.specs.declared.fault.PolicyFault.{PolicyFault}
use Rattle.policy_tokens.specs.declared.fault.PolicyFault.TheVariants.{TooMany}
use Rattle.policy_words.specs.declared.word.CallWord.{CallWord}
use Rattle.policy_words.specs.declared.word.CallWord.TheVariants.{Path}
use Rattle.policy_grammar.specs.Raw.{Step, Step as step, Item}
use Rattle.policy_grammar.specs.Raw.Item.{Define, Originate, State}
use Rattle.policy_rules.specs.Checks.{each}

-- how many of a kind an item adds
abbrev pub amount : Kind → Item → ℕ
amount kind.Definitions (Define name members) = 1
amount kind.Statements (State s) = 1
amount kind.Patterns (State s) = length s.patterns
amount kind.Prefixes (Originate prefix names) = 1
amount _ _ = 0

-- a sum, kept at the greatest number of 64 bits
abbrev pub capped : ℕ → ℕ
capped n = min n 18446744073709551615

-- how many of a kind the items have
abbrev pub counted : Kind → List Item → ℕ
counted k items = capped (sum_by (amount k) items)

-- at most so many of a kind
abbrev pub within : Kind → ℕ → ℕ → Result ⊤ PolicyFault
within k most n = unless (TooMany k n) (nat_le n most)

-- groups, statements, patterns and originated prefixes
abbrev pub items_within : List Item → Result ⊤ PolicyFault
items_within items = do
  _ ← within kind.Definitions DEFINITIONS (counted kind.Definitions items)
  _ ← within kind.Statements STATEMENTS (counted kind.Statements items)
  _ ← within kind.Patterns PATTERNS (counted kind.Patterns items)
  within kind.Prefixes PREFIXES (counted kind.Prefixes items)

abbrev pub call_amount : Step → ℕ
call_amount (step.Call c) = 1
call_amount (step.Above p) = 0
call_amount step.Or = 0
call_amount step.And = 0
call_amount step.Not = 0

-- the calls of a statement
abbrev pub calls_within : Item → Result ⊤ PolicyFault
calls_within (Define name members) = Ok tt
calls_within (Originate prefix names) = Ok tt
calls_within (State s) = within kind.Calls CALLS (capped (sum_by call_amount s.ranked))

abbrev pub word_places : CallWord → ℕ → ℕ
word_places Path n = n
word_places _ n = 0

-- the places of a `path`
abbrev pub places_within : Step → Result ⊤ PolicyFault
places_within (step.Call c) = within kind.Places PLACES (word_places c.word (length c.args))
places_within (step.Above p) = Ok tt
places_within step.Or = Ok tt
places_within step.And = Ok tt
places_within step.Not = Ok tt

abbrev pub paths_within : Item → Result ⊤ PolicyFault
paths_within (Define name members) = Ok tt
paths_within (Originate prefix names) = Ok tt
paths_within (State s) = each places_within s.ranked
