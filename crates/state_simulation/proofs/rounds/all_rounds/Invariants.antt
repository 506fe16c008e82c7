use Rattle.std.proofs.Common.{◌≡◌, ℕ, ◌+◌, ◌*◌, Bool, false, cond, Some, length}
use Rattle.bit_rows.specs.Tables.{PlainRows}
use Rattle.relation_law.specs.Rounds.{IsReach, TakesNothingMore}
use Rattle.relation_law.specs.Views.{view_of}
use Rattle.state_simulation.specs.Stages.{AreAt, AreSized, bits_set}
use Rattle.state_simulation.specs.Targets.{AreLeft}
use Rattle.state_simulation.proofs.rounds.all_rounds.Given as goal

abbrev pub invariant-rounds : goal.invariant-rounds
invariant-rounds l = record {
  sized : AreSized l.maps.graph.now l.rounds;
  onwards : (onwards : PlainRows) × (l.rounds.onwards ≡ Some onwards);
  at : (reach : ℕ → ℕ → Bool) → IsReach (view_of l.maps.graph.now l.claimed) reach → (k : ℕ) × AreAt l.maps.graph.now l.claimed reach k l.rounds
      × (l.changed ≡ false → (j : ℕ) × TakesNothingMore (view_of l.maps.graph.now l.claimed) reach j × AreLeft (view_of l.maps.graph.now l.claimed) reach j l.rounds.left);
}

abbrev pub decreases-rounds : goal.decreases-rounds
decreases-rounds l = 2 * bits_set (length l.maps.graph.now.nodes) l.rounds.left + cond l.changed 1 0
