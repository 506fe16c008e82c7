use Rattle.std.proofs.Common.{◌≡◌, ◌+◌, ◌++◌, List, drop, map}
use Rattle.net_base.specs.Prefixes.{PlainPattern}
use Rattle.policy_base.specs.Policies.{plain_statement}
use Rattle.lint_cover.specs.Tables.{Holds}
use Rattle.own_space.specs.Open.{parts_from}
use Rattle.own_space.proofs.parts.push_statements.Given as goal

abbrev pub invariant-loop-place : goal.invariant-loop-place
invariant-loop-place l =
    (qs : List PlainPattern) → Holds l.initial.table qs
    → (rs : List PlainPattern) × Holds l.table rs
    × (l.initial.parts.items ++ parts_from l.outer l.cases qs 1 (map plain_statement l.statements)
    ≡ l.parts.items ++ parts_from l.outer l.cases rs (l.place + 1) (map plain_statement (drop l.place l.statements)))
