-- What the comparison of two policies is.
use Rattle.std.specs.Prelude.{◌≡◌, List, map}
use Rattle.list_law.specs.Members.{IsIn}
use Rattle.net_base.specs.Network.{PlainNet}
use Rattle.net_base.specs.Prefixes.{PlainPrefix, IsPrefix}
use Rattle.policy_base.specs.Policies.{PlainPolicy}
use Rattle.compare_base.specs.Cases.{pair_for}
use Rattle.policy_pairs.specs.Pairs.{ArePairs}
use Rattle.pair_changes.specs.Changes.{IsPairChange}
use Rattle.comparison.specs.declared.values.ComparedPair.{ComparedPair}

-- All pairs of cases that prefixes have, in order, each with what changes for every prefix that has it.
pub record IsComparison (net : PlainNet) (old new : PlainPolicy) (xs : List ComparedPair) : Type 0 where
  pub pairs : ArePairs net old new (map (λ (x : ComparedPair). x.pair) xs)
  pub changes : (x : ComparedPair) (p : PlainPrefix) → IsIn xs x → IsPrefix p → pair_for old new p ≡ x.pair.cases → IsPairChange net old new p x.change
