use Rattle.std.proofs.Common.{◌≡◌, ◌++◌, take}
use Rattle.std.specs.List.{AllByRecursion, flat_map}
use Rattle.net_base.specs.Prefixes.{IsPattern}
use Rattle.policy_text.specs.PolicyText.{next_pattern}
use Rattle.policy_text.proofs.print.push_more_patterns.Given as goal

abbrev pub invariant-loop-pattern : goal.invariant-loop-pattern
invariant-loop-pattern l =
    (l.text.items ≡ l.initial.text.items ++ flat_map next_pattern (take l.pattern-index l.patterns)) × AllByRecursion IsPattern (take l.pattern-index l.patterns)
