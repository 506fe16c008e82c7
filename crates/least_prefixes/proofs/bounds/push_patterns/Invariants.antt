use Rattle.std.proofs.Common.{◌≡◌, ℕ, take}
use Rattle.std.specs.Prelude.{◌||◌}
use Rattle.least_prefixes.specs.Bounds.{bounds_pattern, has}
use Rattle.least_prefixes.proofs.bounds.push_patterns.Given as goal

abbrev pub invariant-loop-pattern : goal.invariant-loop-pattern
invariant-loop-pattern l = (x : ℕ) → has l.bounds.items x ≡ (has l.initial.bounds.items x || bounds_pattern (take l.pattern-index l.patterns) x)
