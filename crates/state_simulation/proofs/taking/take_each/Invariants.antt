use Rattle.std.proofs.Common.{◌≡◌, ◌<◌, ◌&&◌, ℕ, length, not, take}
use Rattle.std.specs.List.{list_any}
use Rattle.std.specs.Option.{IfSome}
use Rattle.bit_rows.specs.Tables.{IsSameSize, has_at}
use Rattle.graph_base.specs.Runs.{has_step}
use Rattle.relation_law.specs.Rounds.{fails_at}
use Rattle.state_simulation.specs.Looked.{shown}
use Rattle.state_simulation.specs.Targets.{IsMaskOf, gone_in, is_touched, tells}
use Rattle.state_simulation.proofs.taking.take_each.Given as goal

abbrev pub invariant-loop-t : goal.invariant-loop-t
invariant-loop-t l = record {
  size : IsSameSize l.next l.initial.next;
  mask : length l.mask ≡ length l.initial.mask;
  looped : length l.looped ≡ length l.initial.looped;
  held : IfSome l.held (λ s. s < length l.maps.graph.now.nodes);
  masked : IfSome l.held (IsMaskOf l.maps.graph.now l.onwards l.left l.mask);
  bits : (n m : ℕ) → n < length l.maps.graph.now.nodes → m < length l.maps.graph.now.nodes → has_at l.next n m ≡ (has_at l.initial.next n m
      && not (list_any (λ t. is_touched l.touched t && (has_step l.maps.graph.now n t && fails_at (shown l.maps.graph.now) (tells l.onwards) (gone_in l.left) m t)) (take l.t-index l.t-items)));
}
