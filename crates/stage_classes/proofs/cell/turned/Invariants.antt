use Rattle.std.proofs.Common.{◌≡◌, take}
use Rattle.stage_classes.specs.Cells.{turned}
use Rattle.stage_classes.proofs.cell.turned.Given as goal

abbrev pub invariant-loop-cell : goal.invariant-loop-cell
invariant-loop-cell l = l.turned ≡ turned (take l.cell-index l.cells)
