use Rattle.std.proofs.Common.{List, ◌++◌, take}
use Rattle.net_base.specs.Prefixes.{PlainPattern}
use Rattle.lint_cover.specs.Tables.{Holds}
use Rattle.own_space.proofs.covers.note_all.Given as goal

abbrev pub invariant-loop-pattern : goal.invariant-loop-pattern
invariant-loop-pattern l = (qs : List PlainPattern) → Holds l.initial.table qs → Holds l.table (qs ++ take l.pattern-index l.patterns)
