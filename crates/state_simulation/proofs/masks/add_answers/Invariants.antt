use Rattle.std.proofs.Common.{◌≡◌, ◌&&◌, ◌||◌, ℕ, length, not, take}
use Rattle.std.specs.List.{list_any}
use Rattle.bit_rows.specs.Bits.{has}
use Rattle.bit_rows.specs.Tables.{has_at}
use Rattle.graph_base.specs.Runs.{has_step, is_listener}
use Rattle.state_simulation.proofs.masks.add_answers.Given as goal

abbrev pub invariant-loop-s : goal.invariant-loop-s
invariant-loop-s l = record {
  len : length l.mask ≡ length l.initial.mask;
  bits : (m : ℕ) → has l.mask m ≡ (has l.initial.mask m || list_any (λ s. (has_at l.left l.t s && not (is_listener l.maps.graph.now s)) && has_step l.maps.graph.now m s) (take l.s-index l.s-items));
}
