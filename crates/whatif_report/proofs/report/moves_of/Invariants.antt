use Rattle.std.proofs.Common.{take}
use Rattle.whatif_report.specs.Settling.{AreMoves}
use Rattle.whatif_report.proofs.report.moves_of.Given as goal

abbrev pub invariant-loop-row : goal.invariant-loop-row
invariant-loop-row l = AreMoves l.settled.situation.now (take l.row-index l.rows) l.moves
