use Rattle.std.proofs.Common.{◌≡◌, List, ◌++◌, drop, map}
use Rattle.net_base.specs.Prefixes.{PlainPattern}
use Rattle.policy_base.specs.Policies.{plain_statement, policy_of}
use Rattle.lint_cover.specs.Tables.{Holds}
use Rattle.own_space.specs.Covers.{covered_from, covered_in}
use Rattle.own_space.proofs.covers.covered_by_others.Given as goal

abbrev pub invariant-loop-statement : goal.invariant-loop-statement
invariant-loop-statement l =
    (qs : List PlainPattern) × Holds l.table qs
    × (covered_in (policy_of l.policy) ≡ l.marks.items ++ covered_from qs (map plain_statement (drop l.statement-index l.statement-items)))
