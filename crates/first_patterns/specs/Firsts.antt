-- The first pattern of a policy that contains a prefix.
use Rattle.std.specs.Prelude.{ℕ, zero, suc, ◌+◌, Bool, List, [], ◌++◌, ◌∷◌, map, Option, Some, None, slice_get, if◌then◌else◌}
use Rattle.std.specs.Option.{option_and_then}
use Rattle.net_base.specs.Prefixes.{PlainPrefix, PlainPattern, contains}
use Rattle.policy_base.specs.Policies.{PlainPolicy, PlainStatement}
use Rattle.first_patterns.specs.declared.firsts.Stated.{Stated}

abbrev pub stated : ℕ → PlainPattern → Stated
stated k t = record { statement = k; pattern = t }

-- the patterns of statements, in order, with the numbers of these from k
abbrev pub listed : List PlainStatement → ℕ → List Stated
listed [] k = []
listed (s ∷ ss) k = map (stated k) s.patterns ++ listed ss (k + 1)

-- the place, from k, of the first pattern that passes a test
abbrev pub first_place : (PlainPattern → Bool) → List Stated → ℕ → Option ℕ
first_place test [] k = None
first_place test (t ∷ ts) k = if test t.pattern then Some k else first_place test ts (k + 1)

-- the place, from 1, of the first pattern of the policy, in order of its text, that contains the prefix
abbrev pub place_for : PlainPolicy → PlainPrefix → Option ℕ
place_for policy p = first_place (λ t. contains t p) (listed policy.statements 1) 1

-- the pattern at a place, from 1
abbrev pub placed : List Stated → ℕ → Option Stated
placed ts zero = None
placed ts (suc k) = slice_get ts k

-- the first pattern of the policy that contains the prefix
abbrev pub first_pattern : PlainPolicy → PlainPrefix → Option Stated
first_pattern policy p = option_and_then (placed (listed policy.statements 1)) (place_for policy p)
