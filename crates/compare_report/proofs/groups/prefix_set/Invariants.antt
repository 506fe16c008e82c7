use Rattle.std.proofs.Common.{◌≡◌, drop}
use Rattle.std.specs.Prelude.{◌||◌}
use Rattle.std.specs.List.{list_any}
use Rattle.indexmap.specs.IndexSet.{contains}
use Rattle.net_base.specs.Prefixes.{PlainPrefix, same_prefix}
use Rattle.comparison.specs.declared.values.ComparedPair.{ComparedPair}
use Rattle.compare_report.specs.Groups.{seen, is_among}
use Rattle.compare_report.proofs.groups.prefix_set.Given as goal

abbrev pub invariant-loop-pair : goal.invariant-loop-pair
invariant-loop-pair l =
    (p : PlainPrefix)
    → list_any (λ (x : ComparedPair). is_among p x.pair.prefixes) (seen l.group)
    ≡ (contains same_prefix l.set p || list_any (λ (x : ComparedPair). is_among p x.pair.prefixes) (seen (drop l.pair-index l.group)))
