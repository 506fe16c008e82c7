use Rattle.std.proofs.Common.{◌≡◌, drop, List}
use Rattle.std.specs.List.{list_all}
use Rattle.net_base.specs.Prefixes.{PlainPattern}
use Rattle.lint_cover.specs.Covered.{covered}
use Rattle.lint_cover.specs.Tables.{Holds}
use Rattle.own_space.proofs.covers.are_covered.Given as goal

abbrev pub invariant-loop-pattern : goal.invariant-loop-pattern
invariant-loop-pattern l =
    (qs : List PlainPattern) → Holds l.table qs → list_all (covered qs) l.patterns ≡ list_all (covered qs) (drop l.pattern-index l.patterns)
