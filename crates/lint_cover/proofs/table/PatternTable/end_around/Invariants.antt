use Rattle.std.proofs.Common.{◌≡◌, List}
use Rattle.net_base.specs.Prefixes.{PlainPattern}
use Rattle.lint_cover.specs.Covered.{depth_at}
use Rattle.lint_cover.specs.Tables.{Holds, cut_at}
use Rattle.lint_cover.proofs.table.PatternTable.end_around.Given as goal

abbrev pub invariant-loop-k : goal.invariant-loop-k
invariant-loop-k l = (qs : List PlainPattern) → Holds l.self qs → l.most ≡ depth_at qs (cut_at l.prefix l.k)
