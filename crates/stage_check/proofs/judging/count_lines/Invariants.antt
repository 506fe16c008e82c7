use Rattle.std.proofs.Common.{◌≡◌, take, min}
use Rattle.std.specs.Prelude.{sum_by}
use Rattle.class_lines.specs.Tables.{class_in}
use Rattle.stage_check.specs.Verdicts.{lines_of_cell, top}
use Rattle.stage_check.proofs.judging.count_lines.Given as goal

abbrev pub invariant-loop-cell : goal.invariant-loop-cell
invariant-loop-cell l = l.total ≡ min (sum_by (lines_of_cell (class_in l.tables.old) (class_in l.tables.new)) (take l.cell-index l.cells)) top
