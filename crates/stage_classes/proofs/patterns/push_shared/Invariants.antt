use Rattle.std.proofs.Common.{◌≡◌, ◌++◌, take}
use Rattle.std.specs.List.{flat_map}
use Rattle.stage_classes.specs.Cells.{shared, uncovered}
use Rattle.stage_classes.proofs.patterns.push_shared.Given as goal

abbrev pub invariant-loop-other : goal.invariant-loop-other
invariant-loop-other l = l.patterns ≡ l.initial.patterns ++ flat_map (λ b. uncovered l.before l.seen (shared l.pattern b)) (take l.other-index l.class)
