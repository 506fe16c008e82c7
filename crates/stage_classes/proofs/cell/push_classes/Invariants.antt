use Rattle.std.proofs.Common.{◌≡◌, ◌++◌, [], take, drop}
use Rattle.stage_classes.specs.Cells.{with_classes}
use Rattle.stage_classes.proofs.cell.push_classes.Given as goal

abbrev pub invariant-loop-j : goal.invariant-loop-j
invariant-loop-j l = l.initial.cells ++ with_classes l.first l.class l.before [] l.new ≡ l.cells ++ with_classes l.first l.class l.before (take l.j l.new) (drop l.j l.new)
