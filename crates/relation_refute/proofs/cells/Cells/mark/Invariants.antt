use Rattle.std.proofs.Common.{◌≡◌, ◌&&◌, ℕ, cond, ltb}
use Rattle.bit_rows.specs.Tables.{has_at}
use Rattle.relation_law.specs.Relations.{Pair}
use Rattle.relation_refute.specs.Cells.{AreCells, marked_round, round_in}
use Rattle.state_simulation.specs.Looked.{shown}
use Rattle.state_simulation.specs.Targets.{is_touched}
use Rattle.relation_refute.proofs.cells.Cells.mark.Given as goal

abbrev pub invariant-loop-n : goal.invariant-loop-n
invariant-loop-n l = record {
  cells : AreCells l.maps.graph.now l.self;
  rounds : (m k : ℕ) → Pair (shown l.maps.graph.now) m k → round_in l.self m k
      ≡ cond (ltb k l.n && is_touched l.touched k) (marked_round (round_in l.initial.self m k) (has_at l.left k m) l.round) (round_in l.initial.self m k);
}
