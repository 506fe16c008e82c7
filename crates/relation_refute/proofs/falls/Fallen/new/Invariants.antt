use Rattle.std.proofs.Common.{◌≡◌, Some, length}
use Rattle.bit_rows.specs.Tables.{PlainRows}
use Rattle.relation_refute.specs.Cells.{AreCells}
use Rattle.state_simulation.specs.Stages.{AreSized, bits_set}
use Rattle.relation_refute.proofs.Telling.{HasCome}
use Rattle.relation_refute.proofs.falls.Fallen.new.Given as goal

abbrev pub invariant-rounds : goal.invariant-rounds
invariant-rounds l = record {
  sized : AreSized l.maps.graph.now l.rounds;
  cells : AreCells l.maps.graph.now l.cells;
  at : (onwards : PlainRows) × (l.rounds.onwards ≡ Some onwards) × HasCome l.maps.graph.now l.claimed onwards l.last l.rounds l.cells l.is_open;
}

abbrev pub decreases-rounds : goal.decreases-rounds
decreases-rounds l = bits_set (length l.maps.graph.now.nodes) l.rounds.left
