use Rattle.std.proofs.Common.{◌≡◌, ℕ, ◌+◌, ◌*◌, false, cond, Some, length}
use Rattle.bit_rows.specs.Tables.{PlainRows, has_at}
use Rattle.relation_law.specs.Rounds.{TakesNothingMore}
use Rattle.relation_law.specs.Views.{view_of}
use Rattle.state_simulation.specs.Stages.{AreAt, AreBound, AreSized, bits_set}
use Rattle.state_simulation.specs.Targets.{AreLeft}
use Rattle.state_simulation.proofs.first.stay_total.Given as goal

abbrev pub invariant-rounds : goal.invariant-rounds
invariant-rounds l = record {
  sized : AreSized l.maps.graph.now l.rounds;
  bound : AreBound l.maps.graph.now l.rounds.left;
  at : (onwards : PlainRows) × (l.rounds.onwards ≡ Some onwards) × (k : ℕ) × AreAt l.maps.graph.now l.claimed (has_at onwards) k l.rounds
      × (l.changed ≡ false → (j : ℕ) × TakesNothingMore (view_of l.maps.graph.now l.claimed) (has_at onwards) j × AreLeft (view_of l.maps.graph.now l.claimed) (has_at onwards) j l.rounds.left);
}

abbrev pub decreases-rounds : goal.decreases-rounds
decreases-rounds l = 2 * bits_set (length l.maps.graph.now.nodes) l.rounds.left + cond l.changed 1 0
