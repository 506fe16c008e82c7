-- What the names of an `originate` come to.
use Rattle.std.specs.Prelude.{ℕ, List, Result, ⊤}
use Rattle.net_base.specs.Network.{PlainNet}
use Rattle.net_base.specs.Steps.{◌>>=◌}
use Rattle.policy_tokens.specs.declared.fault.PolicyFault.{PolicyFault}
use Rattle.policy_grammar.specs.declared.lexeme.Lexeme.{Lexeme}
use Rattle.policy_rules.specs.KnownNames.{Names}
use Rattle.policy_rules.specs.Checks.{each, set_of_names}
use Rattle.policy_rules.specs.Origins.{routers_alone}
use Rattle.policy_values.specs.declared.origins.OriginNames.{OriginNames}
use Rattle.policy_values.specs.NameSets.{with_named}

-- their locations, and whether they are routers alone
abbrev pub origin_names : List ℕ → PlainNet → Names → List Lexeme → OriginNames
origin_names bytes net known names = record { at = set_of_names bytes known names; routers = each (routers_alone bytes net known) names }

-- whether the names so far and one more are routers alone
abbrev pub with_alone : List ℕ → PlainNet → Names → Result ⊤ PolicyFault → Lexeme → Result ⊤ PolicyFault
with_alone bytes net known so_far l = do
  _ ← so_far
  routers_alone bytes net known l

-- one name more
abbrev pub with_origin : List ℕ → PlainNet → Names → OriginNames → Lexeme → OriginNames
with_origin bytes net known so_far l = record { at = with_named bytes known so_far.at l; routers = with_alone bytes net known so_far.routers l }
