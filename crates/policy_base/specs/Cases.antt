-- The cases of a network and a policy.
use Rattle.std.specs.Prelude.{ℕ, ◌+◌, Bool, true, false, not, ◌&&◌, ◌==◌, List, [], ◌∷◌, ◌++◌, length, Option, Some, None, is_some, if◌then◌else◌}
use Rattle.std.specs.List.{list_any}
use Rattle.net_base.specs.Network.{PlainNet, is_peer}
use Rattle.net_base.specs.Sets.{set_of, same_set}
use Rattle.net_base.specs.Prefixes.{PlainPattern}
use Rattle.policy_base.specs.declared.policy.Origin.{Origin}
use Rattle.policy_base.specs.declared.case.Case.{Case}
use Rattle.policy_base.specs.Policies.{PlainStatement, PlainPolicy}
use Rattle.policy_base.specs.Governing.{governing, originated_at}

-- A prefix joins the case that has its statement and its origins, or begins a case at the end.
abbrev pub with_prefix : ℕ → Origin → List Case → List Case
with_prefix k o [] = record { statement = k; origins = o.at; external = false; prefixes = o.prefix ∷ [] } ∷ []
with_prefix k o (c ∷ cs) =
    if c.statement == k && same_set c.origins o.at
    then (record c { prefixes = c.prefixes ++ o.prefix ∷ [] }) ∷ cs
    else c ∷ with_prefix k o cs

-- where no statement governs the prefix it joins none
abbrev pub with_governed : Option ℕ → Origin → List Case → List Case
with_governed None o cs = cs
with_governed (Some k) o cs = with_prefix k o cs

-- the originated prefixes, in order of the policy, that a statement governs
abbrev pub originated_cases : PlainPolicy → List Origin → List Case → List Case
originated_cases policy [] cs = cs
originated_cases policy (o ∷ os) cs = originated_cases policy os (with_governed (governing policy o.prefix) o cs)

-- the pattern is one single prefix that is originated
abbrev pub is_originated : PlainPolicy → PlainPattern → Bool
is_originated policy pattern = pattern.upto == pattern.base.len && is_some (originated_at policy.origins pattern.base)

-- a statement, numbered k, has an external case where some pattern of it isn't one single originated prefix
abbrev pub external_case : PlainNet → PlainPolicy → ℕ → PlainStatement → List Case
external_case net policy k s =
    if list_any (λ pattern. not (is_originated policy pattern)) s.patterns
    then record { statement = k; origins = set_of (is_peer net); external = true; prefixes = [] } ∷ []
    else []

abbrev pub external_cases : PlainNet → PlainPolicy → ℕ → List PlainStatement → List Case
external_cases net policy k [] = []
external_cases net policy k (s ∷ ss) = external_case net policy k s ++ external_cases net policy (k + 1) ss

-- First the originated prefixes, joined by statement and origins; then, where the network has a peer, the external
-- cases, with all peers as origins.
abbrev pub case_list : PlainNet → PlainPolicy → List Case
case_list net policy =
    originated_cases policy policy.origins []
    ++ (if length net.peers == 0 then [] else external_cases net policy 1 policy.statements)
