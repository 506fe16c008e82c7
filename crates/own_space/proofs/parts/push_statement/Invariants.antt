use Rattle.std.proofs.Common.{◌≡◌, ◌++◌, List, drop, take}
use Rattle.net_base.specs.Prefixes.{PlainPattern}
use Rattle.lint_cover.specs.Tables.{Holds}
use Rattle.own_space.specs.Open.{statement_parts}
use Rattle.own_space.proofs.parts.push_statement.Given as goal

abbrev pub invariant-loop-pattern : goal.invariant-loop-pattern
invariant-loop-pattern l =
    (qs : List PlainPattern) → Holds l.initial.table qs
    → Holds l.table (qs ++ take l.pattern-index l.patterns)
    × (l.initial.parts.items ++ statement_parts l.outer qs l.number l.patterns
    ≡ l.parts.items ++ statement_parts l.outer (qs ++ take l.pattern-index l.patterns) l.number (drop l.pattern-index l.patterns))
