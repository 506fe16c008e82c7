use Rattle.std.proofs.Common.{◌≡◌, ℕ, take}
use Rattle.std.specs.Prelude.{◌||◌}
use Rattle.least_prefixes.specs.Bounds.{bounds_origin, has}
use Rattle.least_prefixes.proofs.bounds.push_origins.Given as goal

abbrev pub invariant-loop-origin : goal.invariant-loop-origin
invariant-loop-origin l = (x : ℕ) → has l.bounds.items x ≡ (has l.initial.bounds.items x || bounds_origin (take l.origin-index l.origins) x)
