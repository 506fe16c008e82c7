-- How much a policy may have.
use Rattle.std.specs.Prelude.{ℕ, ◌+◌, Bool, true, false, nat_le, sum_by, List, [], ◌∷◌, ◌++◌, length}
use Rattle.std.specs.List.{flat_map}
use Rattle.policy_tokens.specs.declared.limits.TheConstants.{CALLS, DEFINITIONS, PLACES}
use Rattle.policy_base.specs.declared.limits.TheConstants.{ORIGINS, PATTERNS, PREFIXES, STATEMENTS}
use Rattle.policy_tokens.specs.declared.kind.Kind.{Kind}
use Rattle.policy_tokens.specs.declared.kind.Kind.TheVariants as kind
use Rattle.policy_tokens.specs.declared.fault.PolicyFault.{PolicyFault}
use Rattle.policy_tokens.specs.declared.fault.PolicyFault.TheVariants.{TooMany}
use Rattle.policy_words.specs.declared.word.CallWord.{CallWord}
use Rattle.policy_words.specs.declared.word.CallWord.TheVariants.{Path}
use Rattle.policy_rules.specs.Counts.{capped}
use Rattle.policy_base.specs.declared.policy.Origin.{Origin}
use Rattle.net_base.specs.SetOperations.{size_of}
use Rattle.policy_law.specs.Trees.{Expression, call, above, either, both, negated, Written, define, originate, state}

-- how many of a kind an item adds
abbrev pub amount : Kind → Written → ℕ
amount kind.Definitions (define group members) = 1
amount kind.Statements (state patterns e from) = 1
amount kind.Patterns (state patterns e from) = length patterns
amount kind.Prefixes (originate prefix names) = 1
amount _ _ = 0

-- the calls of an expression: each is counted by its word
abbrev pub calls : Expression → ℕ
calls (call c) = 1
calls (above a p b) = calls a + calls b
calls (either a b) = calls a + calls b
calls (both a b) = calls a + calls b
calls (negated a) = calls a

abbrev pub places_of_call : CallWord → ℕ → List ℕ
places_of_call Path n = n ∷ []
places_of_call _ n = []

-- how many places each `path` of an expression has, in the order of the text
abbrev pub paths : Expression → List ℕ
paths (call c) = places_of_call c.word (length c.args)
paths (above a p b) = paths a ++ paths b
paths (either a b) = paths a ++ paths b
paths (both a b) = paths a ++ paths b
paths (negated a) = paths a

abbrev pub unless_within : Kind → ℕ → Bool → List PolicyFault
unless_within k n true = []
unless_within k n false = TooMany k n ∷ []

-- more of a kind than there may be
abbrev pub over : Kind → ℕ → ℕ → List PolicyFault
over k most n = unless_within k n (nat_le n most)

-- Too many of a kind. A count past 18446744073709551615 is told as that.
abbrev pub too_many : Kind → ℕ → ℕ → List PolicyFault
too_many k most n = over k most (capped n)

-- how many pairs of a prefix and a router that originates it: each pair is there once, where no prefix is originated twice
abbrev pub pairs : List Origin → ℕ
pairs origins = sum_by (λ (o : Origin). size_of o.at) origins

-- too many calls in a statement
abbrev pub many_calls : Written → List PolicyFault
many_calls (define group members) = []
many_calls (originate prefix names) = []
many_calls (state patterns e from) = too_many kind.Calls CALLS (calls e)

-- too many places in a `path`
abbrev pub long_paths : Written → List PolicyFault
long_paths (define group members) = []
long_paths (originate prefix names) = []
long_paths (state patterns e from) = flat_map (over kind.Places PLACES) (paths e)

-- Each limit that items with these origins pass: groups, statements, patterns, originated prefixes, pairs of a prefix and a
-- router, calls of a statement and places of a `path`.
abbrev pub limits_passed : List Origin → List Written → List PolicyFault
limits_passed origins items =
    too_many kind.Definitions DEFINITIONS (sum_by (amount kind.Definitions) items)
    ++ too_many kind.Statements STATEMENTS (sum_by (amount kind.Statements) items)
    ++ too_many kind.Patterns PATTERNS (sum_by (amount kind.Patterns) items)
    ++ too_many kind.Prefixes PREFIXES (sum_by (amount kind.Prefixes) items)
    ++ too_many kind.Origins ORIGINS (pairs origins)
    ++ flat_map many_calls items
    ++ flat_map long_paths items
