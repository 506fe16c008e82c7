use Rattle.std.proofs.Common.{◌≡◌, take}
use Rattle.std.specs.List.{flat_map}
use Rattle.class_lines.specs.Tables.{class_in}
use Rattle.stage_check.specs.Verdicts.{prefs_of_cell}
use Rattle.stage_check.proofs.judging.prefs_in_the_way.Given as goal

abbrev pub invariant-loop-cell : goal.invariant-loop-cell
invariant-loop-cell l = l.prefs.items ≡ flat_map (prefs_of_cell (class_in l.tables.old) (class_in l.tables.new)) (take l.cell-index l.cells)
