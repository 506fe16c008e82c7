-- What a comparison tells of the two policies.
use Rattle.std.specs.Prelude.{◌≡◌, ◌↔◌, false, IsTrue, List}
use Rattle.std.specs.List.{count_by}
use Rattle.list_law.specs.Members.{IsIn}
use Rattle.net_base.specs.Network.{PlainNet, IsNet}
use Rattle.net_base.specs.Prefixes.{PlainPrefix, IsPrefix}
use Rattle.net_base.specs.Sets.{IsWords}
use Rattle.policy_base.specs.declared.policy.Origin.{Origin}
use Rattle.policy_base.specs.Policies.{PlainPolicy}
use Rattle.config_base.specs.Configs.{PlainConfig}
use Rattle.outcome_base.specs.Right.{IsRight}
use Rattle.compare_base.specs.Cases.{pair_for}
use Rattle.compare_base.specs.Ranks.{IsAlike, IsSame}
use Rattle.comparison.specs.Changed.{is_changed}
use Rattle.comparison.specs.declared.values.ComparedPair.{ComparedPair}
use Rattle.comparison_law.specs.Comparisons.{IsComparison}

-- the routers of each `originate` item are a set as the program keeps it
abbrev pub HaveSets : PlainPolicy → Type 0
HaveSets policy = (o : Origin) → IsIn policy.origins o → IsWords o.at

-- the pair of the prefix, where it has one, isn't told as differing
abbrev pub IsUntold : PlainNet → PlainPolicy → PlainPolicy → List ComparedPair → PlainPrefix → Type 0
IsUntold net old new xs p = (x : ComparedPair) → IsIn xs x → pair_for old new p ≡ x.pair.cases → is_changed net x ≡ false

-- Of a prefix whose pair isn't told as differing both policies say the same.
abbrev pub UntoldPrefixesAreAlike : Type 0
UntoldPrefixesAreAlike =
    (net : PlainNet) (old new : PlainPolicy) (xs : List ComparedPair) (p : PlainPrefix) → IsNet net → IsComparison net old new xs → IsPrefix p
    → IsUntold net old new xs p → IsAlike net old new p

-- the pair has a prefix, and of no prefix that has it they say the same
abbrev pub IsUnlike : PlainNet → PlainPolicy → PlainPolicy → ComparedPair → Type 0
IsUnlike net old new x =
    ((p : PlainPrefix) × IsPrefix p × (pair_for old new p ≡ x.pair.cases)) × ((p : PlainPrefix) → IsPrefix p → pair_for old new p ≡ x.pair.cases → ¬ IsAlike net old new p)

-- Each pair that is told as differing does.
abbrev pub ToldPairsDiffer : Type 0
ToldPairsDiffer =
    (net : PlainNet) (old new : PlainPolicy) (xs : List ComparedPair) (x : ComparedPair) → IsNet net → HaveSets old → HaveSets new → IsComparison net old new xs
    → IsIn xs x → IsTrue (is_changed net x) → IsUnlike net old new x

-- Where no pair is told as differing the policies say the same of every prefix.
abbrev pub UnchangedPoliciesAreSame : Type 0
UnchangedPoliciesAreSame =
    (net : PlainNet) (old new : PlainPolicy) (xs : List ComparedPair) → IsNet net → IsComparison net old new xs → count_by (is_changed net) xs ≡ 0 → IsSame net old new

-- And where they do, none is told.
abbrev pub SamePoliciesAreUnchanged : Type 0
SamePoliciesAreUnchanged =
    (net : PlainNet) (old new : PlainPolicy) (xs : List ComparedPair) → IsNet net → HaveSets old → HaveSets new → IsComparison net old new xs → IsSame net old new
    → count_by (is_changed net) xs ≡ 0

-- Where none is told, a configuration is right for the one exactly where it's right for the other.
abbrev pub UnchangedPoliciesAreServedAlike : Type 0
UnchangedPoliciesAreServedAlike =
    (net : PlainNet) (old new : PlainPolicy) (xs : List ComparedPair) (config : PlainConfig) → IsNet net → IsComparison net old new xs
    → count_by (is_changed net) xs ≡ 0 → IsRight net old config ↔ IsRight net new config
