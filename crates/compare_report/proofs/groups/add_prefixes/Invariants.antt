use Rattle.std.proofs.Common.{◌≡◌, drop}
use Rattle.std.specs.Prelude.{◌||◌}
use Rattle.std.specs.List.{list_any}
use Rattle.indexmap.specs.IndexSet.{contains}
use Rattle.net_base.specs.Prefixes.{PlainPrefix, same_prefix}
use Rattle.compare_report.proofs.groups.add_prefixes.Given as goal

abbrev pub invariant-loop-prefix : goal.invariant-loop-prefix
invariant-loop-prefix l =
    (p : PlainPrefix)
    → (contains same_prefix l.initial.set p || list_any (λ q. same_prefix q p) l.prefixes)
    ≡ (contains same_prefix l.set p || list_any (λ q. same_prefix q p) (drop l.prefix-index l.prefixes))
