use Rattle.std.proofs.Common.{◌≡◌, ◌<◌, ◌&&◌, ◌==◌, ℕ, nat_lt}
use Rattle.bit_rows.specs.Tables.{IsSameSize, has_at}
use Rattle.state_simulation.proofs.apart.own_rows.Given as goal

abbrev pub invariant-loop-node : goal.invariant-loop-node
invariant-loop-node l = record {
  size : IsSameSize l.rows l.initial.rows;
  bits : (n b : ℕ) → n < l.rows.count → has_at l.rows n b ≡ (nat_lt n l.node && b == n);
}
