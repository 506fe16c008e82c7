use Rattle.std.proofs.Common.{◌≡◌, take}
use Rattle.stage_maker.specs.Joined.{classes_of}
use Rattle.stage_maker.proofs.join.patterns.Given as goal

abbrev pub invariant-loop-cell : goal.invariant-loop-cell
invariant-loop-cell l = l.classes ≡ classes_of (take l.cell-index l.cells)
