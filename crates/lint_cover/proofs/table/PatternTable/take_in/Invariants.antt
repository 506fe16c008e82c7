use Rattle.std.proofs.Common.{List, ◌++◌, take}
use Rattle.std.specs.Prelude.{◌↔◌, IsTrue}
use Rattle.net_base.specs.Prefixes.{PlainPattern}
use Rattle.lint_cover.specs.Covered.{AreCovered}
use Rattle.lint_cover.specs.Tables.{Holds}
use Rattle.lint_cover.proofs.table.PatternTable.take_in.Given as goal

abbrev pub invariant-loop-pattern : goal.invariant-loop-pattern
invariant-loop-pattern l = (qs : List PlainPattern) → Holds l.fn.self qs
    → Holds l.self (qs ++ take l.pattern-index l.patterns) × (IsTrue l.are_covered ↔ AreCovered qs (take l.pattern-index l.patterns))
