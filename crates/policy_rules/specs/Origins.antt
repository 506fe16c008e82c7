-- Which routers originate which prefixes.
use Rattle.std.specs.Prelude.{ℕ, zero, suc, ◌+◌, ◌||◌, Bool, false, not, List, [], ◌∷◌, ◌++◌, length, Result, Ok, ⊤}
use Rattle.std.specs.List.{list_any}
use Rattle.net_base.specs.declared.loc.LocSet.{LocSet}
use Rattle.net_base.specs.Network.{PlainNet}
use Rattle.net_base.specs.Prefixes.{PlainPrefix, same_prefix}
use Rattle.net_base.specs.Sets.{holds}
use Rattle.net_base.specs.Steps.{◌>>=◌, unless}
use Rattle.policy_tokens.specs.declared.fault.PolicyFault.{PolicyFault}
use Rattle.policy_tokens.specs.declared.fault.PolicyFault.TheVariants.{OriginPeer, OriginTwice}
use Rattle.policy_grammar.specs.declared.lexeme.Lexeme.{Lexeme}
use Rattle.policy_grammar.specs.Raw.{Item}
use Rattle.policy_grammar.specs.Raw.Item.{Define, Originate, State}
use Rattle.policy_rules.specs.KnownNames.{Names}
use Rattle.policy_rules.specs.Checks.{set_at, each}
use Rattle.policy_rules.specs.Figures.{prefix_at}

-- the set has one of so many locations from l on
abbrev pub has_some : LocSet → ℕ → ℕ → Bool
has_some s l zero = false
has_some s l (suc n) = holds s l || has_some s (l + 1) n

-- the set has a peer
abbrev pub has_peer : PlainNet → LocSet → Bool
has_peer net s = has_some s (length net.routers) (length net.peers)

-- the name stands for routers alone
abbrev pub routers_alone : List ℕ → PlainNet → Names → Lexeme → Result ⊤ PolicyFault
routers_alone bytes net known l = do
  s ← set_at bytes known l
  unless (OriginPeer l.place) (not (has_peer net s))

-- only routers originate
abbrev pub origins_fine : List ℕ → PlainNet → Names → Item → Result ⊤ PolicyFault
origins_fine bytes net known (Define name members) = Ok tt
origins_fine bytes net known (Originate prefix names) = each (routers_alone bytes net known) names
origins_fine bytes net known (State s) = Ok tt

-- No prefix is originated that was so before; the list has those that were.
abbrev pub once_from : List ℕ → List PlainPrefix → List Item → Result ⊤ PolicyFault
once_from bytes before [] = Ok tt
once_from bytes before (Define name members ∷ items) = once_from bytes before items
once_from bytes before (State s ∷ items) = once_from bytes before items
once_from bytes before (Originate prefix names ∷ items) = do
  p ← prefix_at bytes prefix
  _ ← unless (OriginTwice prefix.place) (not (list_any (same_prefix p) before))
  once_from bytes (before ++ p ∷ []) items
