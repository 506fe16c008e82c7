use Rattle.std.proofs.Common.{◌≡◌, ◌&&◌, ◌||◌, ℕ, length, take}
use Rattle.std.specs.List.{list_any}
use Rattle.bit_rows.specs.Bits.{has}
use Rattle.graph_base.specs.Runs.{has_step, is_listener, rank_at}
use Rattle.relation_law.specs.Relations.{no_worse}
use Rattle.state_simulation.proofs.masks.add_hearers.Given as goal

abbrev pub invariant-loop-s : goal.invariant-loop-s
invariant-loop-s l = record {
  len : length l.mask ≡ length l.initial.mask;
  bits : (m : ℕ)
      → has l.mask m
      ≡ (has l.initial.mask m
      || list_any (λ s. (is_listener l.maps.graph.now s && no_worse (rank_at l.maps.graph.now s) (rank_at l.maps.graph.now l.t))
      && has_step l.maps.graph.now m s) (take l.s-index l.s-items));
}
