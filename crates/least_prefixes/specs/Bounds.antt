-- The addresses at which the patterns that contain prefixes of one length can change.
use Rattle.std.specs.Prelude.{ℕ, ◌+◌, ◌-◌, ◌^◌, Bool, ◌||◌, ◌==◌, List}
use Rattle.std.specs.List.{list_any}
use Rattle.net_base.specs.Prefixes.{PlainPrefix, PlainPattern}
use Rattle.policy_base.specs.declared.policy.Origin.{Origin}
use Rattle.policy_base.specs.Policies.{PlainPolicy, PlainStatement}

-- the number is among them
abbrev pub has : List ℕ → ℕ → Bool
has xs x = list_any (λ y. y == x) xs

-- where the prefix begins, or the next one of its length does
abbrev pub bounds_prefix : PlainPrefix → ℕ → Bool
bounds_prefix p x = p.bits == x || p.bits + 2 ^ (32 - p.len) == x

abbrev pub bounds_pattern : List PlainPattern → ℕ → Bool
bounds_pattern patterns x = list_any (λ (t : PlainPattern). bounds_prefix t.base x) patterns

abbrev pub bounds_origin : List Origin → ℕ → Bool
bounds_origin origins x = list_any (λ (o : Origin). bounds_prefix o.prefix x) origins

-- a bound of a pattern of the policy, or of a prefix that it originates
abbrev pub is_bound : PlainPolicy → ℕ → Bool
is_bound policy x = bounds_origin policy.origins x || list_any (λ (s : PlainStatement). bounds_pattern s.patterns x) policy.statements
