use Rattle.std.proofs.Common.{◌≡◌, ◌++◌, drop, filter, not}
use Rattle.comparison.specs.declared.values.ComparedPair.{ComparedPair}
use Rattle.compare_report.specs.Groups.{seen}
use Rattle.compare_report.specs.Kinds.{has_kind}
use Rattle.compare_report.proofs.kinds.split_by_kind.Given as goal

abbrev pub invariant-loop-pair : goal.invariant-loop-pair
invariant-loop-pair l =
    (seen l.these.items ++ filter (has_kind l.kind) (seen (drop l.pair-index l.group)) ≡ filter (has_kind l.kind) (seen l.group))
    × (seen l.others.items ++ filter (λ (x : ComparedPair). not (has_kind l.kind x)) (seen (drop l.pair-index l.group)) ≡ filter (λ (x : ComparedPair). not (has_kind l.kind x)) (seen l.group))
