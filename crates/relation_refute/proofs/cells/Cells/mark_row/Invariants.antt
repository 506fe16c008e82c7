use Rattle.std.proofs.Common.{◌≡◌, ◌&&◌, ℕ, cond, eqb, length, take}
use Rattle.bit_rows.specs.Tables.{has_at}
use Rattle.reach_prune.specs.Searches.{is_among}
use Rattle.relation_law.specs.Relations.{Pair}
use Rattle.relation_refute.specs.Cells.{marked_round, round_in}
use Rattle.state_simulation.specs.Looked.{shown}
use Rattle.relation_refute.proofs.cells.Cells.mark_row.Given as goal

abbrev pub invariant-loop-m : goal.invariant-loop-m
invariant-loop-m l = record {
  spots : l.self.spots.items ≡ l.initial.self.spots.items;
  bases : l.self.bases.items ≡ l.initial.self.bases.items;
  len : length l.self.rounds.items ≡ length l.initial.self.rounds.items;
  rounds : (m k : ℕ) → Pair (shown l.maps.graph.now) m k → round_in l.self m k
      ≡ cond (eqb k l.n && is_among (take l.m-index l.m-items) m) (marked_round (round_in l.initial.self m k) (has_at l.left k m) l.round) (round_in l.initial.self m k);
}
