use Rattle.std.proofs.Common.{◌≡◌, ◌<◌, ◌&&◌, ℕ, length, not, nat_lt}
use Rattle.bit_rows.specs.Tables.{has_at}
use Rattle.relation_law.specs.Rounds.{same_place}
use Rattle.relation_law.specs.Views.{view_of}
use Rattle.state_simulation.specs.Targets.{AreNodeRows, IsWide, is_outranked}
use Rattle.state_simulation.proofs.pairs.ranked_pairs.Given as goal

abbrev pub invariant-loop-n : goal.invariant-loop-n
invariant-loop-n l = record {
  rows : AreNodeRows l.maps.graph.now l.rows;
  wide : IsWide (length l.maps.graph.now.nodes) l.rows.width;
  bits : (m n : ℕ) → m < length l.maps.graph.now.nodes → n < length l.maps.graph.now.nodes → has_at l.rows n m
      ≡ (nat_lt n l.n && (same_place (view_of l.maps.graph.now l.claimed) m n && not (is_outranked (view_of l.maps.graph.now l.claimed) m n)));
}
