use Rattle.std.proofs.Common.{◌≡◌, ◌<◌, ◌≤◌, ℕ, length}
use Rattle.bit_rows.specs.Tables.{IsSameSize, has_at}
use Rattle.state_simulation.specs.Targets.{Put}
use Rattle.state_simulation.proofs.taking.put_each.Given as goal

abbrev pub invariant-loop-n : goal.invariant-loop-n
invariant-loop-n l = record {
  size : IsSameSize l.left l.initial.left;
  len : length l.touched ≡ length l.initial.touched;
  put : Put l.n l.next l.initial.left l.left l.touched l.changed;
  rest : (r b : ℕ) → l.n ≤ r → r < length l.initial.touched → has_at l.left r b ≡ has_at l.initial.left r b;
}
