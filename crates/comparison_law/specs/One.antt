-- A comparison is one thing.
use Rattle.std.specs.Prelude.{◌≡◌, List}
use Rattle.net_base.specs.Network.{PlainNet}
use Rattle.net_base.specs.Prefixes.{PlainPrefix}
use Rattle.policy_base.specs.Policies.{IsPolicyOf, PlainPolicy}
use Rattle.compare_base.specs.declared.rows.PairChange.{PairChange}
use Rattle.pair_changes.specs.Changes.{IsPairChange}
use Rattle.comparison.specs.declared.values.ComparedPair.{ComparedPair}
use Rattle.comparison_law.specs.Comparisons.{IsComparison}

-- What two policies change for a prefix is one thing.
abbrev pub ChangesAreOne : Type 0
ChangesAreOne = (net : PlainNet) (old new : PlainPolicy) (p : PlainPrefix) (a b : PairChange) → IsPairChange net old new p a → IsPairChange net old new p b → a ≡ b

-- Two policies have one comparison.
abbrev pub ComparisonsAreOne : Type 0
ComparisonsAreOne =
    (net : PlainNet) (old new : PlainPolicy) (xs ys : List ComparedPair) → IsPolicyOf net old → IsPolicyOf net new → IsComparison net old new xs → IsComparison net old new ys
    → xs ≡ ys
