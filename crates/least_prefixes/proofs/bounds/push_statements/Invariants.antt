use Rattle.std.proofs.Common.{◌≡◌, ℕ, take}
use Rattle.std.specs.Prelude.{◌||◌}
use Rattle.std.specs.List.{list_any}
use Rattle.policy_base.specs.declared.policy.Statement.{Statement}
use Rattle.least_prefixes.specs.Bounds.{bounds_pattern, has}
use Rattle.least_prefixes.proofs.bounds.push_statements.Given as goal

abbrev pub invariant-loop-statement : goal.invariant-loop-statement
invariant-loop-statement l =
    (x : ℕ)
    → has l.bounds.items x
    ≡ (has l.initial.bounds.items x || list_any (λ (s : Statement). bounds_pattern s.patterns x) (take l.statement-index l.statements))
