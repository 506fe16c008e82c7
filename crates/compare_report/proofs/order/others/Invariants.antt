use Rattle.std.proofs.Common.{◌≡◌, take, filter, not}
use Rattle.std.specs.List.{list_any}
use Rattle.net_base.specs.Prefixes.{same_prefix}
use Rattle.compare_report.proofs.order.others.Given as goal

abbrev pub invariant-loop-prefix : goal.invariant-loop-prefix
invariant-loop-prefix l = l.list.items ≡ filter (λ p. not (list_any (λ q. same_prefix q p) l.before)) (take l.prefix-index l.prefixes)
