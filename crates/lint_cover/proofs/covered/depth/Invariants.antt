use Rattle.std.proofs.Common.{◌≡◌, drop}
use Rattle.std.specs.Prelude.{max}
use Rattle.lint_cover.specs.Covered.{depth_at}
use Rattle.lint_cover.proofs.covered.depth.Given as goal

abbrev pub invariant-loop-pattern : goal.invariant-loop-pattern
invariant-loop-pattern l = depth_at l.patterns l.prefix ≡ max l.most (depth_at (drop l.pattern-index l.patterns) l.prefix)
