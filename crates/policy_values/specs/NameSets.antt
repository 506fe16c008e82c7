-- Sets of named locations, joined name by name, and the sources that they are.
use Rattle.std.specs.Prelude.{ℕ, List, Result, Ok}
use Rattle.net_base.specs.declared.loc.LocSet.{LocSet}
use Rattle.net_base.specs.SetOperations.{union_of}
use Rattle.net_base.specs.Steps.{◌>>=◌}
use Rattle.policy_base.specs.declared.policy.FromSet.{FromSet}
use Rattle.policy_base.specs.declared.policy.FromSet.TheVariants as from_set
use Rattle.policy_tokens.specs.declared.fault.PolicyFault.{PolicyFault}
use Rattle.policy_grammar.specs.declared.lexeme.Lexeme.{Lexeme}
use Rattle.policy_grammar.specs.declared.symbol.Symbol.TheVariants.{Name}
use Rattle.policy_grammar.specs.Reading.{Read, first_of}
use Rattle.policy_rules.specs.KnownNames.{Names}
use Rattle.policy_rules.specs.Checks.{set_at}

-- one name more, by what it adds to what those before came to
abbrev pub link_by : {A : Type 0} → (A → Lexeme → A) → Lexeme → A → List Lexeme → Read A
link_by added joint so_far ls = do
  x ← first_of Name ls
  Ok (added so_far x.0, x.1)

-- the locations of one name more; the first name that is unknown stays the answer
abbrev pub with_named : List ℕ → Names → Result LocSet PolicyFault → Lexeme → Result LocSet PolicyFault
with_named bytes known so_far l = do
  s ← so_far
  t ← set_at bytes known l
  Ok (union_of s t)

-- the sources that are named
abbrev pub sources_of : Result LocSet PolicyFault → Result FromSet PolicyFault
sources_of set = set >>= λ s. Ok (from_set.Named s)
