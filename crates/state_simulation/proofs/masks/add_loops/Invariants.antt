use Rattle.std.proofs.Common.{◌≡◌, ◌&&◌, ℕ, length, take}
use Rattle.std.specs.List.{list_any}
use Rattle.bit_rows.specs.Bits.{has}
use Rattle.bit_rows.specs.Tables.{has_at}
use Rattle.state_simulation.specs.Targets.{gone_in}
use Rattle.state_simulation.proofs.masks.add_loops.Given as goal

abbrev pub invariant-loop-k : goal.invariant-loop-k
invariant-loop-k l = record {
  len : length l.looped ≡ length l.initial.looped;
  bits : (m : ℕ) → has l.looped m ≡ list_any (λ k. gone_in l.left k l.t && has_at l.onwards k m) (take l.k-index l.k-items);
}
