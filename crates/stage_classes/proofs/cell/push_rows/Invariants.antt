use Rattle.std.proofs.Common.{◌≡◌, ◌++◌, [], take, drop}
use Rattle.stage_classes.specs.Cells.{rows}
use Rattle.stage_classes.proofs.cell.push_rows.Given as goal

abbrev pub invariant-loop-i : goal.invariant-loop-i
invariant-loop-i l = l.initial.cells ++ rows [] l.new l.old ≡ l.cells ++ rows (take l.i l.old) l.new (drop l.i l.old)
