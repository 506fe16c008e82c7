use Rattle.std.proofs.Common.{◌≡◌, ◌++◌, drop, filter, not}
use Rattle.comparison.specs.declared.values.ComparedPair.{ComparedPair}
use Rattle.compare_report.specs.Groups.{seen}
use Rattle.compare_report.specs.Kinds.{has_carriers}
use Rattle.compare_report.proofs.carriers.split_by_carriers.Given as goal

abbrev pub invariant-loop-pair : goal.invariant-loop-pair
invariant-loop-pair l =
    (seen l.these.items ++ filter (has_carriers l.which) (seen (drop l.pair-index l.group)) ≡ filter (has_carriers l.which) (seen l.group))
    × (seen l.others.items ++ filter (λ (x : ComparedPair). not (has_carriers l.which x)) (seen (drop l.pair-index l.group)) ≡ filter (λ (x : ComparedPair). not (has_carriers l.which x)) (seen l.group))
