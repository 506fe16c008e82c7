use Rattle.std.proofs.Common.{◌≡◌, take}
use Rattle.stage_classes.specs.Cells.{common}
use Rattle.stage_classes.proofs.patterns.common.Given as goal

abbrev pub invariant-loop-pattern : goal.invariant-loop-pattern
invariant-loop-pattern l = l.patterns ≡ common l.before l.seen (take l.pattern-index l.first) l.second
