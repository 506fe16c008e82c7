use Rattle.std.proofs.Common.{◌≡◌, ◌<◌, ◌&&◌, ◌||◌, ◌==◌, ℕ, length, not, take}
use Rattle.bit_rows.specs.Tables.{IsSameSize, has_at}
use Rattle.reach_prune.specs.Searches.{is_among}
use Rattle.relation_law.specs.Views.{view_of}
use Rattle.state_simulation.specs.Targets.{is_outranked}
use Rattle.state_simulation.proofs.pairs.add_each.Given as goal

abbrev pub invariant-loop-m : goal.invariant-loop-m
invariant-loop-m l = record {
  size : IsSameSize l.rows l.initial.rows;
  bits : (r b : ℕ) → r < length l.maps.graph.now.nodes → has_at l.rows r b
      ≡ (has_at l.initial.rows r b || (r == l.n && (is_among (take l.m-index l.m-items) b && not (is_outranked (view_of l.maps.graph.now l.claimed) b l.n))));
}
